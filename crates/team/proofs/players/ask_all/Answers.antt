-- `ask_all` meets its contract: the first refusal is handed on. Assumes nothing.
use Rattle.team.proofs.Asked.{ask_refused}
use Rattle.team.proofs.players.ask_all.Goals as goal

pub returns-in_err-ask : goal.returns-in_err-ask
returns-in_err-ask c = ask_refused _ _ _ _ _ c.loop-leaf.invariant c.loop-leaf-test.true _ _ c.in_err-ask.ensures c.from_residual.ensures.1
