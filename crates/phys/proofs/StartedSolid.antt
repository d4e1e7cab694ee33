-- A joined trace started solid exactly if its first part did: what note 13 says of one join (walk/proofs/StartedSolid.antt has the whole). Assumes nothing.
use mathlib.Core.Bool.{Bool, true, false, cond, not, ◌&&◌}
use mathlib.Core.Path.{◌≡◌, refl, sym}
use Rattle.format.specs.Contents.{equal}
use Rattle.format.specs.declared.contents.BspLeafContents.TheVariants.{Solid}
use Rattle.phys.specs.Trace as Tr
use Rattle.phys.specs.declared.Trace.{Trace as TraceT}

-- a trace that lies in Solid has the flag set, as `new` sets it
abbrev pub Flagged : TraceT → Type 0
Flagged t = equal t.contents Solid ≡ true → t.start_solid ≡ true

and_first : (a b : Bool) → (a && b) ≡ true → a ≡ true
and_first true b e = refl
and_first false b e = e

module _ (t u : TraceT) (flagged : Flagged t) where
  -- the flag of the first part, and the join is flagged too
  abbrev Keeps : TraceT → Type 0
  Keeps j = (j.start_solid ≡ t.start_solid) × Flagged j

  by_test : (x : Bool) (a b : TraceT) → (x ≡ true → Keeps a) → Keeps b → Keeps (cond x a b)
  by_test true a b f g = f refl
  by_test false a b f g = g

  of_same : Keeps (Tr.join_same t u)
  of_same = (refl, flagged)

  out_of_solid : equal t.contents Solid ≡ true → Keeps (Tr.trace t.start u.end u.contents true)
  out_of_solid e = (sym (flagged e), λ q. refl)

  pub join_started : Keeps (Tr.join_met t u)
  join_started =
      by_test (equal t.contents u.contents) (Tr.join_same t u) _ (λ e. of_same)
      (by_test (equal t.contents Solid && not (equal u.contents Solid)) (Tr.trace t.start u.end u.contents true) t (λ e. out_of_solid (and_first _ _ e)) (refl, flagged))
