-- `hull_sized` meets its contract: the words of the hull are given. Assumes nothing.
use Prim.Native.Nat.{ℕ, ◌≤◌}
use mathlib.Core.List.{List}
use mathlib.Core.Path.{◌≡◌, refl, ap, ap₂, ◌∙◌}
use native.Mathlib.Omega.{arith}
use borrow.Author.Tests.{le-ltb}
use lib.ListN.{length}
use Rattle.format.specs.Answer.{mapped}
use Rattle.format.specs.Answers.{answer_of}
use Rattle.words.specs.Words.{told, given, map_of}
use Rattle.words.proofs.Giving.{told_given}
use Rattle.sized_hulls.specs.Sized as Sized
use Rattle.ffi_hull.specs.Layout.{hull_words}
use Rattle.ffi_sizes.specs.Layout.{sizes_from}
use Rattle.ffi_sizes.specs.Calls.{bsp_hull_sized}
use Rattle.ffi_sizes.proofs.hull_sized.Goals as goal

long : (s map sizes : List ℕ) (model i : ℕ) (out : List ℕ) → 31 ≤ length map → 12 ≤ length sizes → 11 ≤ length out
    → given (mapped hull_words (Sized.hull_sized s (map_of map) (sizes_from sizes) model i)) out ≡ bsp_hull_sized s map sizes model i out
unfolding bsp_hull_sized
long s map sizes model i out m b h = rw (le-ltb (length map) 31 m, le-ltb (length sizes) 12 b, le-ltb (length out) 11 h) refl

pub returns : goal.returns
returns c =
    let s = c.args in
    let out = s.hull.now in
    let found = c.hull_sized in
    let words : answer_of c.map.result ≡ mapped hull_words (answer_of found.result) = grind arith in
    c.give_words.ensures ∙ ap (λ a. told a out) words ∙ told_given hull_words (answer_of found.result) out (λ h. omega arith)
    ∙ ap (λ a. given (mapped hull_words a) out)
    (found.ensures ∙ ap₂ (λ m own. Sized.hull_sized s.file.now m own s.model s.index) c.map_of.ensures c.sizes_in-own.ensures)
    ∙ long s.file.now s.map.now s.sizes.now s.model s.index out (omega arith) (omega arith) (omega arith)
