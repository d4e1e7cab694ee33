-- Texts, numbers in decimal, and lines, as ASCII bytes.
use Prim.Native.Char.{code}
use Prim.Native.String as Str
use Prim.Native.String.{String}
use Rattle.std.specs.Prelude.{ℕ, zero, suc, ◌+◌, ◌-◌, ◌*◌, ◌/◌, ◌%◌, cond, List, [], ◌∷◌, ◌++◌, ltb, take}

-- the codes of a text's characters
abbrev pub ascii : String → List ℕ
ascii Str.[] = []
ascii (Str.◌∷◌ c text) = code c ∷ ascii text

-- The digits of n by at most so many steps: a number below 10 is one digit; any other is the digits of its tenth, and its last digit.
unfoldable pub digits : ℕ → ℕ → List ℕ
digits zero n = []
digits (suc steps) n = cond (ltb n 10) ((48 + n) ∷ []) (digits steps (n / 10) ++ ((48 + n % 10) ∷ []))

-- A number in decimal; more steps than the number are enough. `read_back` and `short` of proofs/Decimals.antt: the digits stand for the
-- number, and there are no more of them than it needs.
unfoldable pub decimal : ℕ → List ℕ
decimal n = digits (suc n) n

-- the number that digits stand for, from the number that those before them stand for
unfoldable pub value : ℕ → List ℕ → ℕ
value before [] = before
value before (d ∷ ds) = value (before * 10 + (d - 48)) ds

-- a name, a number and a newline
unfoldable pub line : List ℕ → ℕ → List ℕ
line name n = name ++ (decimal n ++ (10 ∷ []))

-- a text with a piece after it, as far as 129 bytes go
unfoldable pub pushed : List ℕ → List ℕ → List ℕ
pushed text piece = take 129 (text ++ piece)
