-- `ask_all` meets its contract. The loop's invariant: the players before the one that is next are answered. Assumes nothing.
use Rattle.std.specs.Prelude.{◌≡◌, drop}
use Rattle.team.proofs.Asked.{asked}
use Rattle.team.proofs.players.ask_all.Given as goal

abbrev pub invariant-loop-leaf : goal.invariant-loop-leaf
invariant-loop-leaf l = asked l.file l.map l.leaf_count (drop l.leaf-index l.leaves) ≡ asked l.file l.map l.leaf_count l.leaves
