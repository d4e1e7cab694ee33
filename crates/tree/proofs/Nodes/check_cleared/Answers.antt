-- `check_cleared` meets its contract: the marks are zeros before `check_node` and after it, and counted in between. Assumes nothing.
use Prim.Native.Nat.{ℕ}
use mathlib.Core.Path.{◌≡◌, ap, ◌∙◌}
use lib.ListN.{replicate}
use Rattle.tree.proofs.Laws.{size_found}
use Rattle.tree.proofs.Nodes.check_cleared.Goals as goal

zeros : {n m : ℕ} → n ≡ m → replicate {A = ℕ} n 0 ≡ replicate m 0
zeros e = ap (λ (n : ℕ). replicate {A = ℕ} n 0) e

pub returns : goal.returns
returns c = let node = c.check_node-checked in
    let first = c.fill.ensures.after (λ y e. e) ∙ zeros c.requires in
    let last = c.fill-2.ensures.after (λ y e. e) ∙ zeros (node.auto.marks ∙ c.fill.ensures.len ∙ c.requires) in
    size_found _ _ _ _ last _ _ (rw first at c.in_ok-height.ensures) c.marks_set-n.ensures
