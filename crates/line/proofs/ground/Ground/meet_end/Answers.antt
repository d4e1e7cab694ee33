-- `line::ground::Ground::meet_end` meets its contract. Assumes nothing.
use mathlib.Core.Path.{sym, ◌∙◌}
use Rattle.line.proofs.Ends.{code_says, solid_code}
use Rattle.line.proofs.ground.Ground.meet_end.Goals as goal

pub returns-then-is_blocked : goal.returns-then-is_blocked
returns-then-is_blocked c =
    let (k, (e, n)) = code_says _ c.code_at-code.ensures c.if-code-eq0.false in
    (k, (e, sym (solid_code c.args.looked k n) ∙ sym c.is_blocked.ensures ∙ c.if-is_blocked.true))

pub returns : goal.returns
returns c =
    let (k, (e, n)) = code_says _ c.code_at-code.ensures c.if-code-eq0.false in
    (c.met.ensures.few, (k, (e, sym (solid_code c.args.looked k n) ∙ sym c.is_blocked.ensures ∙ c.if-is_blocked.false, λ q. c.met.ensures.set q k n)))
