-- Texture sections of one texture: beside what the definition says, what note 2 of document 02 says. proofs/Textures.antt computes them all.
use Rattle.std.specs.Prelude.{ℕ, List, [], ◌∷◌, ◌++◌, replicate}
use Rattle.format.specs.Step.{Step, ok, refused}
use Rattle.format.specs.declared.section.BspFileSection.{BspFileSection}
use Rattle.trial_table.specs.Trials.{word}
use Rattle.textures.specs.Section.{textures}

-- the count, the offset 8, a header of a name of 16 bytes, sides of 8 and four picture offsets of 40, and a picture of one byte
abbrev pub with_name : List ℕ → List ℕ
with_name name = word 1 ++ (word 8 ++ (name ++ (word 8 ++ (word 8 ++ (word 40 ++ (word 40 ++ (word 40 ++ (word 40 ++ (7 ∷ [])))))))))

-- one whose name is + and a letter
abbrev pub named : ℕ → List ℕ
named letter = with_name (43 ∷ letter ∷ replicate 14 0)

abbrev pub section_of : ℕ → BspFileSection
section_of size = record { offset = 0; size = size }

pub record Trial : Type 0 where
  pub definition : Step ℕ
  pub note : Step ℕ

infix 4 ◌gives◌
abbrev pub ◌gives◌ : Step ℕ → Step ℕ → Trial
d gives n = record { definition = d; note = n }

unfoldable pub trials : List Trial
trials =
    -- +0 and +9 are primary frames; the section ends after the fourth picture, whose sides are an eighth
    (textures (named 48) (section_of 49) gives ok 1 49)
    ∷ (textures (named 57) (section_of 49) gives ok 1 49)
    ∷ (textures (named 48) (section_of 48) gives refused 7)
    -- +a and +J are alternate frames without a primary one
    ∷ (textures (named 97) (section_of 49) gives refused 15)
    ∷ (textures (named 74) (section_of 49) gives refused 15)
    -- +k is no frame
    ∷ (textures (named 107) (section_of 49) gives refused 14)
    -- after a zero the bytes of a name may be anything: +0, a zero and 200; before it they are ASCII
    ∷ (textures (with_name (43 ∷ 48 ∷ 0 ∷ 200 ∷ replicate 12 0)) (section_of 49) gives ok 1 49)
    ∷ (textures (with_name (43 ∷ 48 ∷ 200 ∷ replicate 13 0)) (section_of 49) gives refused 13)
    ∷ []
