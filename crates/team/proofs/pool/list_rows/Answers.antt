-- `list_rows` meets its contract: the bytes that were read are the data. Assumes nothing.
use mathlib.Core.Path.{sym, subst}
use mathlib.Core.List.{List}
use Prim.Native.Nat.{ℕ}
use Rattle.vis.proofs.Sections.{few_bytes}
use Rattle.team.specs.SideBySide.{Starts}
use Rattle.team.proofs.Found.{data_read}
use Rattle.team.proofs.pool.list_rows.Goals as goal

pub list_pool-requires : goal.list_pool-requires
list_pool-requires c = let a = c.args in
    let read = c.in_ok-visibility.ensures in (
      few_bytes _ _ _ read,
      c.requires.1,
      c.requires.2,
      subst (λ (v : List ℕ). Starts v a.leaf_count a.starts.now) (sym (data_read _ _ _ read)) c.requires.3,
    )
