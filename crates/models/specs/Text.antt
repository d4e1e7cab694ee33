-- The entity text, as a part of the lent file.
use Rattle.std.specs.Prelude.{ℕ, suc, ◌+◌, ◌-◌, cond, List, [], ◌∷◌, length, take, drop, ◌==◌, nat_le}
use Rattle.format.specs.Answer.{Answer, answer, refused}
use Rattle.format.specs.declared.section.BspData.{BspData}
use Rattle.models.specs.declared.text.Part.{Part}

-- how many bytes there are through the first zero, or in all (`read_until`)
abbrev pub through : List ℕ → ℕ
through [] = 0
through (b ∷ bs) = cond (b == 0) 1 (suc (through bs))

-- the position after the first zero byte from a position on, or the file's end
unfoldable pub text_end : List ℕ → ℕ → ℕ
text_end s at = at + through (drop at s)

-- Where the entity text lies: from its section's offset through the first zero byte, or to the file's end, whatever its length and the
-- section's size. At or past the end of the bytes an empty section has an empty text, and any other is 23. (The Rust's MAX_ENTSTRING is
-- tested on loading.)
unfoldable pub entities_of : List ℕ → BspData → Answer Part
entities_of s m =
    let at = m.entities.offset in
    cond (nat_le (length s) at)
    (cond (m.entities.size == 0) (answer (record { offset = at; size = 0 })) (refused 23))
    (answer (record { offset = at; size = text_end s at - at }))

-- the part of the file that was found, or nothing
abbrev pub bytes_found : List ℕ → Answer Part → List ℕ
bytes_found s (answer p) = take p.size (drop p.offset s)
bytes_found s (refused n) = []

-- the entity text; empty where `entities_of` refuses
abbrev pub entity_text : List ℕ → BspData → List ℕ
entity_text s m = bytes_found s (entities_of s m)
