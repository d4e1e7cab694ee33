-- The place that is said of a file is where loading refuses it: it is said with loading's own number, and of no file that loads.
use Rattle.std.specs.Prelude.{◌≡◌, ℕ, List}
use Rattle.format.specs.Answer.{Answer, answer, refused, mapped}
use Rattle.load.specs.Load.{load_of}
use Rattle.place.specs.Place.{Located, loads, refused_at, place_of}

-- the number of a place, or that there is none
abbrev pub told : Located → Answer (Unit {0})
told loads = answer tt
told (refused_at n z here) = refused n

abbrev pub EveryFile : Type 0
EveryFile = (s : List ℕ) → told (place_of s) ≡ mapped (λ m. tt) (load_of s)
