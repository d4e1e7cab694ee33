-- Demand 3 for every file that loads: loading makes its planes and leaves readable (`planes`, `leaves` of load/proofs/Loads.antt), and proofs/Demand3.antt
-- asks nothing else. Assumes nothing.
use Rattle.load.proofs.Loads as Loads
use Rattle.loaded.proofs.Demand3.{demand3}
use Rattle.loaded.specs.EveryFile.{EveryTable, EveryHull}

pub every_table : EveryTable
every_table s m loads table marks root h passed =
    demand3 s m (record { planes = Loads.planes s m loads; leaves = Loads.leaves s m loads }) table root h (record { marks = marks; passed = passed })

pub every_hull : EveryHull
every_hull s m loads hull marks h passed =
    let d = every_table s m loads hull.table marks hull.node_id h passed in
    record {
      contents = λ p. d.contents hull.mins hull.maxs p;
      leaf = λ r p. d.leaf r p;
      trace = λ lo hi start end s e. d.trace hull.mins hull.maxs start end lo hi s e;
    }
