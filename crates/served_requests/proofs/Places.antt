-- The place of a refusal has the number that bsp_load answers (specs/Places.antt says it), by `every_file` of place/proofs/EveryFile.antt. Assumes nothing.
use Prim.Native.Nat.{ℕ}
use mathlib.Core.List.{List}
use mathlib.Core.Path.{◌≡◌, refl, sym, ap, ◌∙◌}
use Rattle.format.specs.Answer.{Answer, answer, refused, mapped}
use Rattle.format.specs.declared.section.BspData.{BspData}
use Rattle.load.specs.Load.{load_of}
use Rattle.place.specs.Place.{Located, loads, refused_at, place_of}
use Rattle.place.specs.EveryFile.{told}
use Rattle.place.proofs.EveryFile.{every_file}
use Rattle.words.specs.Words.{Written, given, map_words}
use Rattle.ffi_load.specs.Calls.{bsp_load}
use Rattle.ffi_place.specs.Calls.{place_words, bsp_load_place}
use Rattle.served.proofs.Statuses.{long}
use Rattle.served_requests.specs.Places.{place_number, EveryPlace}

-- a place and an answer with one number: 0, or that of the refusal
abbrev number_in : Answer (Unit {0}) → ℕ
number_in (answer u) = 0
number_in (refused n) = n

of_place : (l : Located) (out : List ℕ) → place_number (given (mapped place_words (answer l)) out).list ≡ number_in (told l)
of_place loads out = refl
of_place (refused_at n z here) out = refl

of_load : (x : Answer BspData) (lent : List ℕ) → (given (mapped map_words x) lent).status ≡ number_in (mapped (λ m. tt) x)
of_load (answer m) lent = refl
of_load (refused n) lent = refl

pub every_place : EveryPlace
unfolding bsp_load_place bsp_load
every_place s out lent h l =
    let a = long 4 out out (given (mapped place_words (answer (place_of s))) out) h in
    let b = long 31 lent lent (given (mapped map_words (load_of s)) lent) l in (
      ap (λ (w : Written). w.status) a,
      ap (λ (w : Written). place_number w.list) a ∙ of_place (place_of s) out ∙ ap number_in (every_file s) ∙ sym (of_load (load_of s) lent) ∙ sym (ap (λ (w : Written). w.status) b),
    )
