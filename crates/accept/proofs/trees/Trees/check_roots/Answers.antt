-- `check_roots` meets its contract: the marks are enough for both tables. Assumes nothing.
use Rattle.std.proofs.Common.{◌∙◌}
use native.Mathlib.Omega.{arith}
use Rattle.accept.proofs.Ways.{render_fits, clip_fits}
use Rattle.accept.proofs.trees.Trees.check_roots.Goals as goal

pub check_root-requires : goal.check_root-requires
check_root-requires c = (render_fits _ c.self.invariant.marks, c.self.invariant.render)

pub check_root-requires-2 : goal.check_root-requires-2
check_root-requires-2 c = (clip_fits _ (c.check_root.auto.marks ∙ c.self.invariant.marks), c.self.invariant.clip)

pub check_root-requires-3 : goal.check_root-requires-3
check_root-requires-3 c = (clip_fits _ (c.check_root-2.auto.marks ∙ c.check_root.auto.marks ∙ c.self.invariant.marks), c.in_ok-check_root-2.ensures.1)

pub invariant_of-self : goal.invariant_of-self
invariant_of-self c =
    record {
      marks = c.check_root.auto.marks ∙ c.self.invariant.marks;
      render = c.in_err-check_root.ensures.1;
      clip = c.self.invariant.clip;
    }

pub returns-in_err-check_root-clause-answer : goal.returns-in_err-check_root-clause-answer
returns-in_err-check_root-clause-answer c = grind arith

pub invariant_of-self-in_err-check_root-2 : goal.invariant_of-self-in_err-check_root-2
invariant_of-self-in_err-check_root-2 c =
    record {
      marks = c.check_root-2.auto.marks ∙ c.check_root.auto.marks ∙ c.self.invariant.marks;
      render = c.in_ok-check_root.ensures.1;
      clip = c.in_err-check_root-2.ensures.1;
    }

pub returns-in_err-check_root-2-clause-answer : goal.returns-in_err-check_root-2-clause-answer
returns-in_err-check_root-2-clause-answer c = grind arith

pub invariant_of-self-2 : goal.invariant_of-self-2
invariant_of-self-2 c =
    record {
      marks = c.check_root-3.auto.marks ∙ c.check_root-2.auto.marks ∙ c.check_root.auto.marks ∙ c.self.invariant.marks;
      render = c.in_ok-check_root.ensures.1;
      clip = c.check_root-3.ensures.1;
    }

pub returns-clause-answer : goal.returns-clause-answer
returns-clause-answer c = grind arith
