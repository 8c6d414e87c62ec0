-- What `detect` ensures, from what its parts ensure: each word goes on from the word before, and the calm ticks are those of no lead and no trail shape.
use Prim.Native.Nat.{ℕ, ◌+◌}
use native.Mathlib.Omega.{arith}
use mathlib.Core.Path.{◌≡◌, sym, subst}
use mathlib.Core.Bool.{Bool}
use mathlib.Core.List.{List}
use lib.Bits.{bit_and}
use Rattle.rules.specs.Samples.{A, P, N}
use Rattle.rules.specs.Sentences.{lead_at}
use Rattle.edges.specs.declared.Past.{Past}
use Rattle.plane.specs.declared.Stretch.{Stretch}
use Rattle.plane.specs.Words.{Holds}
use Rattle.edges.specs.Planes.{falls_at, calm_at, chain_at}
use Rattle.edges.specs.Detection.{Leads, Trails, Chain, Edges, Behind, Ahead}
use Rattle.plane.proofs.PlaneLaws.{inv, holds-and, holds_not}

-- the same word, its first tick written otherwise
on : {G : ℕ → Bool} {x : ℕ} (c d : ℕ) → c ≡ d → Holds G c x → Holds G d x
on {G} {x} c d r z = subst (λ (k : ℕ). Holds G k x) r z

-- the words of a stretch hold what those that it was made of hold
module _ {G : ℕ → Bool} {b before word : ℕ} {s : Stretch} (e : s ≡ record { word = word; before = before }) where
  as_before : Holds G b before → Holds G b s.before
  as_before z = subst (λ (s : Stretch). Holds G b s.before) (sym e) z

  as_word : Holds G b word → Holds G b s.word
  as_word z = subst (λ (s : Stretch). Holds G b s.word) (sym e) z

module _ (o : Past) {a p n l f h e : ℕ} {sa sp sn sl sk sh : Stretch}
    (ea : sa ≡ record { word = a; before = o.a }) (ep : sp ≡ record { word = p; before = o.p }) (en : sn ≡ record { word = n; before = o.n })
    (hl : Leads sa.word sp.word sa.before sp.before l) (hf : Trails sa.word sp.word sn.word sa.before sp.before sn.before f)
    (el : sl ≡ record { word = l; before = o.lead }) (ek : sk ≡ record { word = bit_and (inv l) (inv f); before = o.calm })
    (hh : Chain sl.word sl.before sk.word sk.before o.chain h)
    (eh : sh ≡ record { word = h; before = o.chain }) (he : Edges sl.word sl.before sk.word sk.before sh.word sh.before e)
    (F : List ℕ) (g : ℕ) (q : Behind F g o) (ha : Holds (A F) (g + 66) a) (hp : Holds (P F) (g + 66) p) (hn : Holds (N F) (g + 66) n) where
  leads_on : Holds (lead_at F) (g + 64) l
  leads_on =
      on (g + 2 + 62) (g + 64) (omega arith)
      (hl.holds F (g + 2) (as_before ea q.a) (as_word ea (on (g + 66) (g + 2 + 64) (omega arith) ha))
      (as_before ep q.p) (as_word ep (on (g + 66) (g + 2 + 64) (omega arith) hp)))

  falls_on : Holds (falls_at F) (g + 64) f
  falls_on =
      on (g + 2 + 62) (g + 64) (omega arith)
      (hf.holds F (g + 2) (as_before ea q.a) (as_word ea (on (g + 66) (g + 2 + 64) (omega arith) ha))
      (as_before ep q.p) (as_word ep (on (g + 66) (g + 2 + 64) (omega arith) hp))
      (as_before en q.n) (as_word en (on (g + 66) (g + 2 + 64) (omega arith) hn)))

  calm_on : Holds (calm_at F) (g + 64) (bit_and (inv l) (inv f))
  unfolding calm_at
  calm_on = holds-and (holds_not leads_on) (holds_not falls_on)

  chain_on : Holds (chain_at F) (g + 64) h
  chain_on = hh.holds F g (as_before el q.lead) (as_word el leads_on) (as_before ek q.calm) (as_word ek calm_on) q.chain

  -- all that is found
  pub detected : Ahead F g (record { lead = l; calm = bit_and (inv l) (inv f); chain = h; edge = e })
  detected = record {
    lead = leads_on;
    calm = calm_on;
    chain = chain_on;
    edge = he.holds F g (as_before el q.lead) (as_word el leads_on) (as_before ek q.calm) (as_word ek calm_on) (as_before eh q.chain) (as_word eh chain_on);
  }
