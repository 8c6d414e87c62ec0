-- An edge on the machine of a state: sums of 16 bits are those of the rules, and an edge that reaches no open reply changes nothing.
use Prim.Native.Nat.{ℕ, ◌+◌, ◌^◌, ◌≤◌, ◌<◌}
use native.Mathlib.Omega.{arith}
use mathlib.Core.Path.{◌≡◌, refl, ap, ap₂, ◌∙◌}
use mathlib.Core.Bool.{Bool, true, false, cond}
use mathlib.Core.List.{List, [], ◌∷◌, ◌++◌}
use lib.Pow.{pow_mono}
use Rattle.rules.specs.declared.Reply.{Reply}
use Rattle.rules.specs.declared.Pulse.{Pulse}
use Rattle.rules.specs.declared.Counts.{Counts}
use Rattle.places.specs.Four.{Machine}
use Rattle.rules.specs.declared.Estimate.TheVariants.{Average}
use Rattle.std.proofs.Common.{Option, Some, None}
use Rattle.rules.specs.declared.Fate.{Fate}
use Rattle.rules.specs.declared.Fate.TheVariants.{Sidelobe, Garbled, Lost, Opens}
use Rattle.rules.specs.Settings.{Settings, standard}
use Rattle.rules.specs.Lists.{any, reject, count, All}
use Rattle.rules.specs.Replies.{Verdict, f1, position, takes, bit_of, level, averaged, average, agrees, verdict, settle, heard_at, hear, speaks, is_phantom}
use Rattle.rules.specs.Ranges.{Ranged}
use Rattle.rules.specs.Machine.{State, tally, fate, opened, live_after, bracket, deal_from, deal, edge_step}
use Rattle.rules.proofs.ListLaws.{all_reject, all_append, count_split}
use Rattle.rules.proofs.Outcomes.{Balanced}
use Rattle.rules.proofs.Ranges.{cond-most, takes-bit, ranged-opened, in_range}
use Rattle.replies.specs.Sums.{wrapped}
use Rattle.places.specs.Places.{step_on, machine_of}
use Rattle.places.specs.Post.{Small, Fits, EdgePost}
use Rattle.places.proofs.Placed.{step-placed}

-- ---- sums

sum_is : (a b : ℕ) → a < 32768 → b < 32768 → wrapped a b ≡ a + b
sum_is a b h l = omega arith

module _ (r : Reply) (f : Ranged r) where
  same-settle : (k : ℕ) (x : Verdict) → 2 ^ bit_of k < 32768 → settle wrapped k x r.word ≡ settle ◌+◌ k x r.word
  same-settle k x l =
      let p = sum_is r.word.settled (2 ^ bit_of k) (omega (arith, f.settled)) l in
      let q = sum_is r.word.code (cond x.code (2 ^ bit_of k) 0) (omega (arith, f.settled, f.code)) (omega (arith, cond-most x.code (2 ^ bit_of k) 0 (2 ^ bit_of k) (omega arith) (omega arith))) in
      let t = sum_is r.word.unsure (cond x.confidence 0 (2 ^ bit_of k)) (omega (arith, f.settled, f.unsure)) (omega (arith, cond-most x.confidence 0 (2 ^ bit_of k) (2 ^ bit_of k) (omega arith) (omega arith))) in
      λ i. record { settled = p i; code = q i; unsure = t i }

  same-average : (v : ℕ) → v ≤ 255 → average wrapped r.reference v ≡ average ◌+◌ r.reference v
  unfolding average
  same-average v l =
      let g = in_range r f in
      let p = sum_is r.reference.n 1 (omega (arith, g.n)) (omega arith) in
      let q = sum_is r.reference.s v (omega (arith, g.s)) (omega arith) in
      λ i. record { estimate = Average (averaged (level r.reference.estimate) v); n = p i; s = q i }

  same-hear : (set : Settings) (e : Pulse) → e.value ≤ 255 → (other : Bool) → hear wrapped set e other r ≡ hear ◌+◌ set e other r
  unfolding hear
  same-hear set e l other = go (takes k r.word.settled) refl
    where
      k : ℕ
      k = position (f1 r) e.tick.0

      x : Verdict
      x = verdict e.main (agrees set e.value r) other

      go : (c : Bool) → takes k r.word.settled ≡ c → cond c (heard_at wrapped k e x r) r ≡ cond c (heard_at ◌+◌ k e x r) r
      go true h =
          let b = pow_mono {i = bit_of k} {j = 14} (omega (arith, takes-bit k r.word.settled h)) in
          λ i. record {
            f1 = r.f1;
            marks = r.marks;
            word = same-settle k x (omega (arith, b)) i;
            reference = cond x.confidence (same-average e.value l i) r.reference;
          }
      go false h = refl

same-deal : (set : Settings) (e : Pulse) → e.value ≤ 255 → (before l : List Reply) → All Ranged l → deal_from wrapped set e before l ≡ deal_from ◌+◌ set e before l
same-deal set e v before [] h = refl
same-deal set e v before (r ∷ l) h =
    ap₂ {C = List Reply} (λ x m. x ∷ m) (same-hear r h.0 set e v (any (speaks set e) (before ++ l))) (same-deal set e v (before ++ (r ∷ [])) l h.1)

module _ (p : ℕ) (l : p ≤ 4) (c : Counts) (h : Small c) where
  same-tally : (z : Fate) → tally wrapped z p c ≡ tally ◌+◌ z p c
  same-tally Sidelobe =
      let a = sum_is c.found 1 h.found (omega arith) in
      let b = sum_is c.sidelobe 1 h.sidelobe (omega arith) in
      λ i. record { found = a i; opened = c.opened; sidelobe = b i; garbled = c.garbled; lost = c.lost; phantoms = c.phantoms }
  same-tally Garbled =
      let a = sum_is c.found 1 h.found (omega arith) in
      let b = sum_is c.garbled 1 h.garbled (omega arith) in
      let d = sum_is c.phantoms p h.phantoms (omega arith) in
      λ i. record { found = a i; opened = c.opened; sidelobe = c.sidelobe; garbled = b i; lost = c.lost; phantoms = d i }
  same-tally Lost =
      let a = sum_is c.found 1 h.found (omega arith) in
      let b = sum_is c.lost 1 h.lost (omega arith) in
      let d = sum_is c.phantoms p h.phantoms (omega arith) in
      λ i. record { found = a i; opened = c.opened; sidelobe = c.sidelobe; garbled = c.garbled; lost = b i; phantoms = d i }
  same-tally Opens =
      let a = sum_is c.found 1 h.found (omega arith) in
      let b = sum_is c.opened 1 h.opened (omega arith) in
      let d = sum_is c.phantoms p h.phantoms (omega arith) in
      λ i. record { found = a i; opened = b i; sidelobe = c.sidelobe; garbled = c.garbled; lost = c.lost; phantoms = d i }

ranged-after : (x : Fate) (l ks : List Reply) (r : Reply) → All Ranged l → All Ranged ks → Ranged r → All Ranged (live_after x l ks r)
ranged-after Sidelobe l ks r h k f = h
ranged-after Garbled l ks r h k f = k
ranged-after Lost l ks r h k f = k
ranged-after Opens l ks r h k f = all_append Ranged ks (r ∷ []) k (f, tt)

module _ (e : Pulse) (s : State) where
  same_bracket : (b : Option Pulse) → Fits e b s → bracket wrapped e b s ≡ bracket ◌+◌ e b s
  unfolding bracket
  same_bracket None h = refl
  same_bracket (Some f) h =
      let ks = reject (is_phantom e.tick.0) s.live in
      let p = count (is_phantom e.tick.0) s.live in
      λ i. record {
        done = s.done;
        live = live_after (fate e f ks) s.live ks (opened e f ks);
        counts = same-tally p (omega (arith, h.four, count_split (is_phantom e.tick.0) s.live)) s.counts h.counts (fate e f ks) i;
      }

  ranged-bracket : (b : Option Pulse) → Fits e b s → All Ranged (bracket ◌+◌ e b s).live
  unfolding bracket
  ranged-bracket None h = h.ranged
  ranged-bracket (Some f) h =
      let ks = reject (is_phantom e.tick.0) s.live in
      ranged-after (fate e f ks) s.live ks (opened e f ks) h.ranged (all_reject Ranged (is_phantom e.tick.0) s.live h.ranged)
      (ranged-opened e f ks h.value h.second)

  same_step : (set : Settings) (b : Option Pulse) → Fits e b s → edge_step wrapped set e b s ≡ edge_step ◌+◌ set e b s
  unfolding edge_step deal
  same_step set b h =
      let n = bracket ◌+◌ e b s in
      let d = same-deal set e h.value [] n.live (ranged-bracket b h) in
      ap (deal wrapped set e) (same_bracket b h) ∙ (λ i. record { done = n.done; live = d i; counts = n.counts })

pub edge_post : (m : Machine) (e : Pulse) (b : Option Pulse) (r : Machine) → r ≡ step_on wrapped standard e b m → EdgePost m e b r
edge_post m e b r h =
    record {
      total = h;
      result = λ s is fits. h ∙ ap (step_on wrapped standard e b) is ∙ step-placed wrapped e standard b s fits.four ∙ ap machine_of (same_step e s standard b fits);
    }

-- the counts are small where found is
pub balanced_small : (s : State) → Balanced s → s.counts.found < 32768 → Small s.counts
balanced_small s h k =
    record {
      found = k;
      opened = omega (arith, h.fates);
      sidelobe = omega (arith, h.fates);
      garbled = omega (arith, h.fates);
      lost = omega (arith, h.fates);
      phantoms = omega (arith, h.fates, h.kept);
    }
