-- Bytes of a number, high byte first; and bytes written over a buffer: single stores, nothing, and one part after the other.
use Prim.Native.Nat.{ℕ, ◌+◌, ◌/◌, ◌%◌, ◌≤◌}
use native.Mathlib.Omega.{arith}
use native.Mathlib.Nat.{add_assoc, add-zero}
use native.Mathlib.Numerals.{towards_suc}
use mathlib.Core.Path.{◌≡◌, sym, ap, ap₂, ◌∙◌}
use mathlib.Core.List.{List, [], ◌∷◌, ◌++◌, append_assoc, append-nil}
use lib.ListN.{length, take, drop, set, length-append, take-append-drop}
use lib.Seq.{take_at, drop-drop, drop-append-add, length-take-le, sets-eq}
use Rattle.rules.specs.Records.{bytes}
use Rattle.rules.specs.Buffers.{over-at}

-- ---- bytes of a number

by_one : (x : ℕ) → x % 256 ≡ x / 1 % 256
by_one x = omega arith

pub bytes_one : (x : ℕ) → x % 256 ∷ [] ≡ bytes 1 x
unfolding bytes
bytes_one x = ap (λ (z : ℕ). z ∷ []) (by_one x)

pub bytes-two : (x : ℕ) → x / 256 % 256 ∷ x % 256 ∷ [] ≡ bytes 2 x
unfolding bytes
bytes-two x = ap (λ (z : ℕ). x / 256 % 256 ∷ z ∷ []) (by_one x)

pub bytes-eight : (x : ℕ) → x / 72057594037927936 % 256 ∷ x / 281474976710656 % 256 ∷ x / 1099511627776 % 256 ∷ x / 4294967296 % 256 ∷ x / 16777216 % 256 ∷ x / 65536 % 256 ∷ x / 256 % 256 ∷ x % 256 ∷ [] ≡ bytes 8 x
unfolding bytes
bytes-eight x = ap (λ (z : ℕ). x / 72057594037927936 % 256 ∷ x / 281474976710656 % 256 ∷ x / 1099511627776 % 256 ∷ x / 4294967296 % 256 ∷ x / 16777216 % 256 ∷ x / 65536 % 256 ∷ x / 256 % 256 ∷ z ∷ []) (by_one x)

-- ---- stores

module _ (l : List ℕ) (i : ℕ) where
  pub put_one : (a : ℕ) → i + 1 ≤ length l → set l i a ≡ over-at (a ∷ []) i l
  unfolding over-at
  put_one a h = sets-eq (a ∷ []) l i h

  pub put_two : (a b : ℕ) → i + 2 ≤ length l → set (set l i a) (i + 1) b ≡ over-at (a ∷ b ∷ []) i l
  unfolding over-at
  put_two a b h = simp towards_suc (simp towards_suc at (sets-eq (a ∷ b ∷ []) l i h))

-- no bytes written
pub over-at-nil : (at : ℕ) (b : List ℕ) → over-at [] at b ≡ b
unfolding over-at
over-at-nil at b = rw (add-zero, append-nil, take-append-drop)

-- more bytes, put where those at a place end
pub over-at-more : (l k b : List ℕ) (at to : ℕ) → to ≡ at + length l → to ≤ length b → over-at k to (over-at l at b) ≡ over-at (l ++ k) at b
unfolding over-at
over-at-more l k b at to e h =
    let n : length (take at b ++ l) ≡ to = length-append (take at b) l ∙ ap (λ (x : ℕ). x + length l) (length-take-le at b (omega arith)) ∙ sym e in
    rw (take_at (take at b ++ l) (drop (at + length l) b) to n)
    (ap (λ (x : List ℕ). take at b ++ l ++ k ++ x) (ap (λ (x : ℕ). drop (x + length k) (take at b ++ l ++ drop (at + length l) b)) (sym n) ∙ drop-append-add (take at b ++ l) (drop (at + length l) b) (length k) ∙ drop-drop (length k) (at + length l) b)
    ∙ ap₂ (λ (x y : List ℕ). x ++ y) (append_assoc (take at b) l k) (ap (λ (x : ℕ). drop x b) (add_assoc at (length l) (length k) ∙ ap (λ (x : ℕ). at + x) (sym (length-append l k)))))

-- the next bytes, after those of l
pub over-at-next : (l k b b₁ b₂ : List ℕ) (at to : ℕ) → to ≡ at + length l → to ≤ length b → b₁ ≡ over-at l at b → b₂ ≡ over-at k to b₁ → b₂ ≡ over-at (l ++ k) at b
over-at-next l k b b₁ b₂ at to e h p q = q ∙ ap (over-at k to) p ∙ over-at-more l k b at to e h
