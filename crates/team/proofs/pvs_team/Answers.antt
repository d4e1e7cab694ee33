-- `pvs_team` meets its contract: the law of the way taken, with what its callees ensure. Assumes nothing.
use mathlib.Core.Path.{sym, subst}
use mathlib.Core.List.{List}
use Prim.Native.Nat.{ℕ, ◌<◌, ◌≤◌}
use native.Mathlib.Omega.{arith}
use lib.ListN.{length}
use Rattle.team.specs.Starts.{data_of}
use Rattle.team.specs.SideBySide.{Starts}
use Rattle.team.proofs.Found.{team_whole, team_lies, some_found, few_found}
use Rattle.team.proofs.pvs_team.Goals as goal

pub list_rows-requires : goal.list_rows-requires
list_rows-requires c = let a = c.args in
    let f = c.find_rows-rows in
    let few = c.if-leaves-gt16.false in
    let asked = c.in_ok-ask_all.ensures in
    let rows : f.result ≤ 16 = omega (arith, f.ensures.0) in
    let some = some_found _ 16 _ _ c.if-rows-eq0.false f.auto.starts rows f.ensures.1 in (
      team_lies a.file.now a.map a.leaf_count a.leaves.now few asked some,
      subst (λ (l : List ℕ). 0 < length l) (sym f.ensures.1) some,
      few_found _ _ f.auto.starts rows,
      subst (Starts (data_of a.file.now a.map.visibility) a.leaf_count) (sym f.ensures.1) (team_whole a.file.now a.map a.leaf_count a.leaves.now few asked),
    )
