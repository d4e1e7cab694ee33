-- Well-formed UTF-8, what Rust's `String::from_utf8` takes, a byte at a time (the Unicode Standard, table 3-7): `want_of n lo hi` says that n
-- more bytes are to follow in the character, the next of them from lo to hi; `None` that a byte was out of place.
use Rattle.std.specs.Prelude.{Option, Some, None, ℕ, ◌-◌, List, [], ◌∷◌, Bool, false, cond, ltb, eqb}
use Rattle.utf8.specs.declared.Want.{Want}

abbrev pub want_of : ℕ → ℕ → ℕ → Option Want
want_of n lo hi = Some (record { more = n; low = lo; high = hi })

-- the first byte of a character of three bytes
unfoldable pub lead_three : ℕ → Option Want
lead_three b =
    cond (eqb b 0xe0) (want_of 2 0xa0 0xbf)
    (cond (eqb b 0xed) (want_of 2 0x80 0x9f)
    (want_of 2 0x80 0xbf))

-- the first byte of a character of four bytes
unfoldable pub lead_four : ℕ → Option Want
lead_four b =
    cond (eqb b 0xf0) (want_of 3 0x90 0xbf)
    (cond (ltb b 0xf4) (want_of 3 0x80 0xbf)
    (cond (eqb b 0xf4) (want_of 3 0x80 0x8f)
    None))

-- the first byte of a character
unfoldable pub lead : ℕ → Option Want
lead b =
    cond (ltb b 0x80) (want_of 0 0x80 0xbf)
    (cond (ltb b 0xc2) None
    (cond (ltb b 0xe0) (want_of 1 0x80 0xbf)
    (cond (ltb b 0xf0) (lead_three b)
    (lead_four b))))

-- the next byte, where a check stands
unfoldable pub next_of : Want → ℕ → Option Want
next_of u b =
    cond (eqb u.more 0) (lead b)
    (cond (ltb b u.low) None
    (cond (ltb u.high b) None
    (want_of (u.more - 1) 0x80 0xbf)))

abbrev pub next : Option Want → ℕ → Option Want
next None b = None
next (Some u) b = next_of u b

unfoldable pub run : Option Want → List ℕ → Option Want
run u [] = u
run u (b ∷ bs) = run (next u b) bs

-- no byte is missing at the end
unfoldable pub whole : Option Want → Bool
whole None = false
whole (Some u) = eqb u.more 0

unfoldable pub is_utf8 : List ℕ → Bool
is_utf8 bs = whole (run (want_of 0 0x80 0xbf) bs)
