-- The leaves of a byte, put by `put_leaves` in what is left of a list past the `count` entries that it has. Assumes nothing.
use Prim.Native.Nat.{ℕ, ◌+◌, ◌-◌, ◌≤◌, min}
use mathlib.Core.Path.{◌≡◌, sym, ap, ◌∙◌}
use mathlib.Core.List.{List, ◌++◌, append_assoc}
use native.Mathlib.Nat.{min-eq_left, min-eq_right}
use native.Mathlib.Omega.{arith}
use borrow.Rule.Slice.PartMut.{put_mid, post_of, same_len_mid}
use lib.ListN.{length, take, drop, length-append, length-take, length-drop, take-append-drop}
use lib.Seq.{take_at, take_all, length-take-le}
use Rattle.vis.specs.Row.{byte_leaves}

module _ (list next : List ℕ) (count r first byte : ℕ) where
  -- what is left of the list, and the list afterwards
  abbrev part : List ℕ
  part = take (length list - count) (drop count list)

  abbrev pub after : List ℕ
  after = put_mid count (length list - count) list next

  abbrev these : List ℕ
  these = byte_leaves first byte

  -- the leaves of a byte that stand at the front
  pub at_front : (leaves : List ℕ) → r ≡ min (length part) (length leaves) → next ≡ take (length part) leaves ++ drop r part → take r next ≡ take (length part) leaves
  at_front leaves n e = ap (take r) e ∙ take_at (take (length part) leaves) (drop r part) r (length-take (length part) leaves ∙ sym n)

  -- they are all there, and what lay before them is kept
  pub placed : count + length these ≤ length list → first ≤ 4294967287 → length next ≡ length part
      → (r ≡ min (length part) (length (byte_leaves (min first 4294967287) byte))) × (take r next ≡ take (length part) (byte_leaves (min first 4294967287) byte))
      → (length after ≡ length list) × (count + r ≡ count + length these) × (take (count + r) after ≡ take count list ++ these)
  placed room low long put =
      let e : min first 4294967287 ≡ first = min-eq_left low in
      let m : length part ≡ length list - count = simp (length-take, length-drop) (omega arith) in
      let k : length these ≤ length part = omega arith in
      let q : r ≡ length these = (rw e at put.0) ∙ min-eq_right k in
      let t : take r next ≡ these = (rw e at put.1) ∙ take_all (length part) these k in
      let s : next ≡ these ++ drop r next = sym (take-append-drop r next) ∙ ap (λ (l : List ℕ). l ++ drop r next) t in
      let l : length (take count list ++ these) ≡ count + r = omega (arith, length-append (take count list) these, length-take-le count list (omega arith)) in
      let a : after ≡ (take count list ++ these) ++ (drop r next ++ post_of count (length list - count) list) =
      ap (λ (n : List ℕ). take count list ++ (n ++ post_of count (length list - count) list)) s
      ∙ ap (λ (n : List ℕ). take count list ++ n) (append_assoc these (drop r next) (post_of count (length list - count) list))
      ∙ sym (append_assoc (take count list) these (drop r next ++ post_of count (length list - count) list)) in (
        same_len_mid count (length list - count) list next long,
        ap (λ (n : ℕ). count + n) q,
        ap (take (count + r)) a ∙ take_at (take count list ++ these) (drop r next ++ post_of count (length list - count) list) (count + r) l,
      )
