-- `clip_found` meets its contract, as `found_at` does.
-- Assumes nothing.
use Rattle.std.proofs.Common.{Ok, false, ◌*◌, ◌/◌, ◌<◌, ap, length, refl}
use Rattle.math.specs.declared.plane.Hyperplane.{Hyperplane}
use Rattle.nodes.specs.Tables.{file_table}
use Rattle.nodes.specs.Fast.{node_of, ReadsNode}
use Rattle.nodes.specs.declared.read.Words.{Words}
use Rattle.nodes.proofs.Making.{in_made}
use Rattle.nodes.proofs.Quicks.{of_some}
use Rattle.nodes.proofs.whole.Sections.clip_found.Goals as goal

pub returns-clause-found : goal.returns-clause-found
returns-clause-found c = let a = c.args in let w = c.in_ok-words.words in let at = a.index * 8 in
    let told = of_some (λ (y : Words). ReadsNode false a.self.now.nodes.now at (Ok y) × (y.plane < length a.self.now.planes.now / 20)) c.clip_at_once.result w c.in_ok-words.was c.clip_at_once.ensures in
    in_made (λ x. x) false a.self.now.nodes.now a.self.now.planes.now at (Ok w)
    told.0 w refl told.1 _
    (ap (λ (y : Hyperplane). record { nd = node_of (file_table false) w; plane = y }) c.plane_bytes_at-bytes.ensures)
