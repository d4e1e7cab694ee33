-- A part of a list, as long as some items that were copied to its front.
-- Assumes nothing.
use Prim.Native.Nat.{◌≤◌}
use native.Mathlib.Omega.{arith}
use mathlib.Core.List.{List, ◌++◌, append-nil}
use mathlib.Core.Path.{◌≡◌, ap₂, ◌∙◌}
use lib.ListN.{length, take, drop}
use lib.Seq.{take_all, length-take-le}
use Rattle.std.proofs.lemmas.List.{drop_all}

-- it is the items
pub copied_part : {A : Type 0} (items list : List A) {r : List A} → length items ≤ length list
    → r ≡ take (length (take (length items) list)) items ++ drop (length items) (take (length items) list) → r ≡ items
copied_part items list h q =
    let e : length (take (length items) list) ≡ length items = length-take-le (length items) list h in
    q ∙ ap₂ (λ a b. a ++ b) (take_all (length (take (length items) list)) items (omega (arith, e))) (drop_all (length items) (take (length items) list) (omega (arith, e))) ∙ append-nil items
