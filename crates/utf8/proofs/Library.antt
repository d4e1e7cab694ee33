-- The library's `IsUtf8` says that bytes are the encoding of some characters. It holds exactly where the table of the standard takes the bytes.
-- Assumes nothing.
use lib.Utf8.{scalar, scalars, next, encode, encodes, scalar_cases, low_scalar}
use Rattle.std.proofs.Common.{◌≡◌, ℕ, zero, suc, ◌+◌, ◌-◌, ◌*◌, ◌/◌, ◌<◌, ◌≤◌, Bool, true, false, eqb, List, [], ◌∷◌, ◌++◌, length, slice_index_or, IsUtf8, Option, Some, None, inl, inr, refl, sym, ap, ◌∙◌, subst, arith, true≢false}
use Rattle.std.proofs.lemmas.Bool.{and_parts, cases_lt}
use Rattle.std.proofs.lemmas.Bool.Decides.{nat_tests}
use Rattle.std.proofs.lemmas.Str.{IsUtf8-append, IsUtf8-encode}
use Rattle.utf8.specs.Unicode.{want_of, lead, lead_three, lead_four, next_of, run, whole, is_utf8}
use Rattle.utf8.specs.declared.Want.{Want}

abbrev want : ℕ → ℕ → ℕ → Want
want n lo hi = record { more = n; low = lo; high = hi }

-- between two characters
abbrev fresh : Want
fresh = want 0 0x80 0xbf

-- a byte that begins a character

module _ (b : ℕ) where
  lead_one : b < 128 → lead b ≡ Some fresh
  unfolding lead
  lead_one h = grind (arith, nat_tests)

  lead_early : 128 ≤ b → b < 194 → lead b ≡ None
  unfolding lead
  lead_early l h = grind (arith, nat_tests)

  lead_two : 194 ≤ b → b < 224 → lead b ≡ want_of 1 0x80 0xbf
  unfolding lead
  lead_two l h = grind (arith, nat_tests)

  lead_e0 : b ≡ 224 → lead b ≡ want_of 2 0xa0 0xbf
  unfolding lead lead_three
  lead_e0 e = ap lead e

  lead_low : 224 < b → b < 237 → lead b ≡ want_of 2 0x80 0xbf
  unfolding lead lead_three
  lead_low l h = grind (arith, nat_tests)

  lead_ed : b ≡ 237 → lead b ≡ want_of 2 0x80 0x9f
  unfolding lead lead_three
  lead_ed e = ap lead e

  lead_high : 237 < b → b < 240 → lead b ≡ want_of 2 0x80 0xbf
  unfolding lead lead_three
  lead_high l h = grind (arith, nat_tests)

  lead_f0 : b ≡ 240 → lead b ≡ want_of 3 0x90 0xbf
  unfolding lead lead_four
  lead_f0 e = ap lead e

  lead_four_mid : 240 < b → b < 244 → lead b ≡ want_of 3 0x80 0xbf
  unfolding lead lead_four
  lead_four_mid l h = grind (arith, nat_tests)

  lead_f4 : b ≡ 244 → lead b ≡ want_of 3 0x80 0x8f
  unfolding lead lead_four
  lead_f4 e = ap lead e

  lead_late : 244 < b → lead b ≡ None
  unfolding lead lead_four
  lead_late l = grind (arith, nat_tests)

  led : next_of fresh b ≡ lead b
  unfolding next_of
  led = refl

-- a byte within a character
module _ (n lo hi b : ℕ) where
  within : lo ≤ b → b ≤ hi → next_of (want (suc n) lo hi) b ≡ want_of n 0x80 0xbf
  unfolding next_of
  within l h = grind (arith, nat_tests)

  under : b < lo → next_of (want (suc n) lo hi) b ≡ None
  unfolding next_of
  under h = grind (arith, nat_tests)

  over : lo ≤ b → hi < b → next_of (want (suc n) lo hi) b ≡ None
  unfolding next_of
  over l h = grind (arith, nat_tests)

-- a byte more, in a list
step : (u : Want) (b : ℕ) (bs : List ℕ) (v : Option Want) → next_of u b ≡ v → run (Some u) (b ∷ bs) ≡ run v bs
unfolding run
step u b bs v e = ap (λ w. run w bs) e

-- once a byte was out of place
stuck : (s : List ℕ) → run None s ≡ None
unfolding run
stuck [] = refl
stuck (b ∷ s) = stuck s

high_scalar : (c : ℕ) → 57344 ≤ c → c < 1114112 → scalar c ≡ true
high_scalar c l h = grind (arith, nat_tests)

-- the bytes of a character
module _ (c : ℕ) where
  one : c < 128 → encode c ≡ c ∷ []
  unfolding encode
  one h = grind (arith, nat_tests)

  two : 128 ≤ c → c < 2048 → encode c ≡ (192 + c / 64) ∷ next c ∷ []
  unfolding encode
  two l h = grind (arith, nat_tests)

  three : 2048 ≤ c → c < 65536 → encode c ≡ (224 + c / 4096) ∷ next (c / 64) ∷ next c ∷ []
  unfolding encode
  three l h = grind (arith, nat_tests)

  four : 65536 ≤ c → encode c ≡ (240 + c / 262144) ∷ next (c / 4096) ∷ next (c / 64) ∷ next c ∷ []
  unfolding encode
  four l = grind (arith, nat_tests)

-- The table takes the bytes of a character: it stands between two characters after them, as before.
module _ (c : ℕ) (r : List ℕ) where
  abbrev Takes : Type 0
  Takes = run (Some fresh) (encode c ++ r) ≡ run (Some fresh) r

  takes_one : c < 128 → Takes
  takes_one h = ap (λ l. run (Some fresh) (l ++ r)) (one c h) ∙ step fresh c r (Some fresh) (led c ∙ lead_one c h)

  takes_two : 128 ≤ c → c < 2048 → Takes
  takes_two l h =
      ap (λ p. run (Some fresh) (p ++ r)) (two c l h)
      ∙ step fresh (192 + c / 64) (next c ∷ r) (want_of 1 0x80 0xbf) (led _ ∙ lead_two _ (omega arith) (omega arith))
      ∙ step (want 1 0x80 0xbf) (next c) r (Some fresh) (within 0 0x80 0xbf (next c) (omega arith) (omega arith))

  takes_three : (lo hi : ℕ) → 2048 ≤ c → c < 65536 → lead (224 + c / 4096) ≡ want_of 2 lo hi → lo ≤ next (c / 64) → next (c / 64) ≤ hi → Takes
  takes_three lo hi l h e p q =
      ap (λ k. run (Some fresh) (k ++ r)) (three c l h)
      ∙ step fresh (224 + c / 4096) (next (c / 64) ∷ next c ∷ r) (want_of 2 lo hi) (led _ ∙ e)
      ∙ step (want 2 lo hi) (next (c / 64)) (next c ∷ r) (want_of 1 0x80 0xbf) (within 1 lo hi (next (c / 64)) p q)
      ∙ step (want 1 0x80 0xbf) (next c) r (Some fresh) (within 0 0x80 0xbf (next c) (omega arith) (omega arith))

  takes_four : (lo hi : ℕ) → 65536 ≤ c → lead (240 + c / 262144) ≡ want_of 3 lo hi → lo ≤ next (c / 4096) → next (c / 4096) ≤ hi → Takes
  takes_four lo hi l e p q =
      ap (λ k. run (Some fresh) (k ++ r)) (four c l)
      ∙ step fresh (240 + c / 262144) (next (c / 4096) ∷ next (c / 64) ∷ next c ∷ r) (want_of 3 lo hi) (led _ ∙ e)
      ∙ step (want 3 lo hi) (next (c / 4096)) (next (c / 64) ∷ next c ∷ r) (want_of 2 0x80 0xbf) (within 2 lo hi (next (c / 4096)) p q)
      ∙ step (want 2 0x80 0xbf) (next (c / 64)) (next c ∷ r) (want_of 1 0x80 0xbf) (within 1 0x80 0xbf (next (c / 64)) (omega arith) (omega arith))
      ∙ step (want 1 0x80 0xbf) (next c) r (Some fresh) (within 0 0x80 0xbf (next c) (omega arith) (omega arith))

  takes_low : c < 55296 → Takes
  takes_low h = elim (cases_lt c 128) [
    | inl a ↦ takes_one a
    | inr a ↦ elim (cases_lt c 2048) [
      | inl b ↦ takes_two a b
      | inr b ↦ elim (cases_lt c 4096) [
        | inl d ↦ takes_three 0xa0 0xbf b (omega arith) (lead_e0 _ (omega arith)) (omega arith) (omega arith)
        | inr d ↦ elim (cases_lt c 53248) [
          | inl e ↦ takes_three 0x80 0xbf b (omega arith) (lead_low _ (omega arith) (omega arith)) (omega arith) (omega arith)
          | inr e ↦ takes_three 0x80 0x9f b (omega arith) (lead_ed _ (omega arith)) (omega arith) (omega arith)
        ]
      ]
    ]
  ]

  takes_high : 57344 ≤ c → c < 1114112 → Takes
  takes_high l h = elim (cases_lt c 65536) [
    | inl a ↦ takes_three 0x80 0xbf (omega arith) a (lead_high _ (omega arith) (omega arith)) (omega arith) (omega arith)
    | inr a ↦ elim (cases_lt c 262144) [
      | inl b ↦ takes_four 0x90 0xbf a (lead_f0 _ (omega arith)) (omega arith) (omega arith)
      | inr b ↦ elim (cases_lt c 1048576) [
        | inl d ↦ takes_four 0x80 0xbf a (lead_four_mid _ (omega arith) (omega arith)) (omega arith) (omega arith)
        | inr d ↦ takes_four 0x80 0x8f a (lead_f4 _ (omega arith)) (omega arith) (omega arith)
      ]
    ]
  ]

  takes : scalar c ≡ true → Takes
  takes s = elim (scalar_cases c s) [ inl h ↦ takes_low h | inr h ↦ takes_high h.0 h.1 ]

takes_all : (cs : List ℕ) → scalars cs ≡ true → run (Some fresh) (encodes cs) ≡ Some fresh
unfolding run
takes_all [] s = refl
takes_all (c ∷ cs) s = let p = and_parts _ _ s in takes c (encodes cs) p.0 ∙ takes_all cs p.1

pub taken : (bs : List ℕ) → IsUtf8 bs → is_utf8 bs ≡ true
unfolding is_utf8 whole
taken bs u = ap (λ l. whole (run (Some fresh) l)) (sym u.1.1) ∙ ap whole (takes_all u.0 u.1.0)

-- Bytes that the table takes are the encoding of some characters.

nothing : {X : Type 0} (u : Want) (b : ℕ) (bs : List ℕ) → next_of u b ≡ None → whole (run (Some u) (b ∷ bs)) ≡ true → X
unfolding whole
nothing u b bs n e = absurd (true≢false (sym e ∙ ap whole (step u b bs None n ∙ stuck bs)))

-- where n more bytes are to follow after the next
record Follows (n lo hi : ℕ) (bs : List ℕ) : Type 0 where
  byte : ℕ
  rest : List ℕ
  is : bs ≡ byte ∷ rest
  low : lo ≤ byte
  high : byte ≤ hi
  left : whole (run (want_of n 0x80 0xbf) rest) ≡ true

missing : (n : ℕ) → eqb (suc n) 0 ≡ false
missing n = grind (arith, nat_tests)

follows : (n lo hi : ℕ) (bs : List ℕ) → whole (run (want_of (suc n) lo hi) bs) ≡ true → Follows n lo hi bs
unfolding run whole
follows n lo hi [] e = absurd (true≢false (sym e ∙ missing n))
follows n lo hi (b ∷ bs) e = elim (cases_lt b lo) [
  | inl l ↦ nothing (want (suc n) lo hi) b bs (under n lo hi b l) e
  | inr l ↦ elim (cases_lt hi b) [
    | inl h ↦ nothing (want (suc n) lo hi) b bs (over n lo hi b l h) e
    | inr h ↦ record { byte = b; rest = bs; is = refl; low = l; high = h; left = sym (ap whole (step (want (suc n) lo hi) b bs _ (within n lo hi b l h))) ∙ e }
  ]
]

made : (c : ℕ) (p r : List ℕ) → scalar c ≡ true → encode c ≡ p → IsUtf8 r → IsUtf8 (p ++ r)
made c p r s e u = IsUtf8-append p r (subst IsUtf8 e (IsUtf8-encode c s)) u

-- the character of three bytes
abbrev value : ℕ → ℕ → ℕ → ℕ
value a b d = (a - 224) * 4096 + (b - 128) * 64 + (d - 128)

module _ (a : ℕ) (bs : List ℕ) (ih : (r : List ℕ) → length r ≤ length bs → whole (run (Some fresh) r) ≡ true → IsUtf8 r) (e : whole (run (Some fresh) (a ∷ bs)) ≡ true) where
  opened : (v : Option Want) → lead a ≡ v → whole (run v bs) ≡ true
  opened v l = sym (ap whole (step fresh a bs v (led a ∙ l))) ∙ e

  from_one : a < 128 → IsUtf8 (a ∷ bs)
  from_one h = made a (a ∷ []) bs (low_scalar a (omega arith)) (one a h) (ih bs (omega arith) (opened _ (lead_one a h)))

  from_two : 194 ≤ a → a < 224 → IsUtf8 (a ∷ bs)
  from_two l h =
      let x = follows 0 0x80 0xbf bs (opened _ (lead_two a l h)) in
      let xl = x.low in
      let xh = x.high in
      let c = (a - 192) * 64 + (x.byte - 128) in
      let p : 192 + c / 64 ≡ a = omega arith in
      let q : next c ≡ x.byte = omega arith in
      subst IsUtf8 (ap (λ k. a ∷ k) (sym x.is))
      (made c (a ∷ x.byte ∷ []) x.rest (low_scalar c (omega arith)) (two c (omega arith) (omega arith) ∙ (λ k. p k ∷ q k ∷ [])) (ih x.rest (omega (arith, ap length x.is)) x.left))

  from_three : (lo hi : ℕ) → lead a ≡ want_of 2 lo hi → 128 ≤ lo → hi < 192 → 224 ≤ a → a < 240
      → ((b d : ℕ) → lo ≤ b → b ≤ hi → 128 ≤ d → d < 192 → (2048 ≤ value a b d) × (scalar (value a b d) ≡ true))
      → IsUtf8 (a ∷ bs)
  from_three lo hi le wl wh l h good =
      let x = follows 1 lo hi bs (opened _ le) in
      let y = follows 0 0x80 0xbf x.rest x.left in
      let xl = x.low in
      let xh = x.high in
      let yl = y.low in
      let yh = y.high in
      let c = value a x.byte y.byte in
      let ok = good x.byte y.byte xl xh yl (omega arith) in
      let p : 224 + c / 4096 ≡ a = omega arith in
      let q : next (c / 64) ≡ x.byte = omega arith in
      let t : next c ≡ y.byte = omega arith in
      subst IsUtf8 (ap (λ k. a ∷ k) (ap (λ k. x.byte ∷ k) (sym y.is) ∙ sym x.is))
      (made c (a ∷ x.byte ∷ y.byte ∷ []) y.rest ok.1 (three c ok.0 (omega arith) ∙ (λ k. p k ∷ q k ∷ t k ∷ [])) (ih y.rest (omega (arith, ap length x.is, ap length y.is)) y.left))

  from_four : (lo hi : ℕ) → lead a ≡ want_of 3 lo hi → 128 ≤ lo → hi < 192 → 240 ≤ a
      → ((b : ℕ) → lo ≤ b → b ≤ hi → (16 ≤ (a - 240) * 64 + (b - 128)) × ((a - 240) * 64 + (b - 128) < 272))
      → IsUtf8 (a ∷ bs)
  from_four lo hi le wl wh l good =
      let x = follows 2 lo hi bs (opened _ le) in
      let y = follows 1 0x80 0xbf x.rest x.left in
      let z = follows 0 0x80 0xbf y.rest y.left in
      let xl = x.low in
      let xh = x.high in
      let yl = y.low in
      let yh = y.high in
      let zl = z.low in
      let zh = z.high in
      let ok = good x.byte xl xh in
      let m = ok.0 in
      let n = ok.1 in
      let c = (a - 240) * 262144 + (x.byte - 128) * 4096 + (y.byte - 128) * 64 + (z.byte - 128) in
      let p : 240 + c / 262144 ≡ a = omega arith in
      let q : next (c / 4096) ≡ x.byte = omega arith in
      let d : c / 64 ≡ (a - 240) * 4096 + (x.byte - 128) * 64 + (y.byte - 128) = omega arith in
      let t : next (c / 64) ≡ y.byte = subst (λ (k : ℕ). next k ≡ y.byte) (sym d) (omega arith) in
      let v : next c ≡ z.byte = omega arith in
      subst IsUtf8 (ap (λ k. a ∷ k) (ap (λ k. x.byte ∷ k) (ap (λ k. y.byte ∷ k) (sym z.is) ∙ sym y.is) ∙ sym x.is))
      (made c (a ∷ x.byte ∷ y.byte ∷ z.byte ∷ []) z.rest (high_scalar c (omega arith) (omega arith))
      (four c (omega arith) ∙ (λ k. p k ∷ q k ∷ t k ∷ v k ∷ [])) (ih z.rest (omega (arith, ap length x.is, ap length y.is, ap length z.is)) z.left))

  from_threes : 224 ≤ a → a < 240 → IsUtf8 (a ∷ bs)
  from_threes l h = elim (cases_lt a 225) [
    | inl i ↦ from_three 0xa0 0xbf (lead_e0 a (omega arith)) (omega arith) (omega arith) l h (λ b d p q s t. (omega arith, low_scalar (value a b d) (omega arith)))
    | inr i ↦ elim (cases_lt a 237) [
      | inl j ↦ from_three 0x80 0xbf (lead_low a (omega arith) j) (omega arith) (omega arith) l h (λ b d p q s t. (omega arith, low_scalar (value a b d) (omega arith)))
      | inr j ↦ elim (cases_lt a 238) [
        | inl k ↦ from_three 0x80 0x9f (lead_ed a (omega arith)) (omega arith) (omega arith) l h (λ b d p q s t. (omega arith, low_scalar (value a b d) (omega arith)))
        | inr k ↦ from_three 0x80 0xbf (lead_high a (omega arith) h) (omega arith) (omega arith) l h (λ b d p q s t. (omega arith, high_scalar (value a b d) (omega arith) (omega arith)))
      ]
    ]
  ]

  from_fours : 240 ≤ a → IsUtf8 (a ∷ bs)
  from_fours l = elim (cases_lt a 241) [
    | inl i ↦ from_four 0x90 0xbf (lead_f0 a (omega arith)) (omega arith) (omega arith) l (λ b p q. (omega arith, omega arith))
    | inr i ↦ elim (cases_lt a 244) [
      | inl j ↦ from_four 0x80 0xbf (lead_four_mid a (omega arith) j) (omega arith) (omega arith) l (λ b p q. (omega arith, omega arith))
      | inr j ↦ elim (cases_lt a 245) [
        | inl k ↦ from_four 0x80 0x8f (lead_f4 a (omega arith)) (omega arith) (omega arith) l (λ b p q. (omega arith, omega arith))
        | inr k ↦ nothing fresh a bs (led a ∙ lead_late a (omega arith)) e
      ]
    ]
  ]

  from_any : IsUtf8 (a ∷ bs)
  from_any = elim (cases_lt a 128) [
    | inl h ↦ from_one h
    | inr h ↦ elim (cases_lt a 194) [
      | inl i ↦ nothing fresh a bs (led a ∙ lead_early a h i) e
      | inr i ↦ elim (cases_lt a 224) [
        | inl j ↦ from_two i j
        | inr j ↦ elim (cases_lt a 240) [ inl k ↦ from_threes j k | inr k ↦ from_fours k ]
      ]
    ]
  ]

back : (n : ℕ) (bs : List ℕ) → length bs ≤ n → whole (run (Some fresh) bs) ≡ true → IsUtf8 bs
back n [] l e = ([], (refl, refl))
back zero (a ∷ bs) l e = absurd (omega arith)
back (suc n) (a ∷ bs) l e = from_any a bs (λ r h. back n r (omega arith)) e

pub encoded : (bs : List ℕ) → is_utf8 bs ≡ true → IsUtf8 bs
unfolding is_utf8
encoded bs e = back (length bs) bs (omega arith) e

by_flag : (b : Bool) → ¬ (b ≡ true) → b ≡ false
by_flag true h = absurd (h refl)
by_flag false h = refl

pub refused : (bs : List ℕ) → ¬ (IsUtf8 bs) → is_utf8 bs ≡ false
refused bs n = by_flag (is_utf8 bs) (λ e. n (encoded bs e))

-- Three bytes that begin with 0xed are a character where the next is at most 0x9f; above that lie the code points of surrogates.
pub below_surrogates : (bs : List ℕ) → 3 ≤ length bs → length bs < 4 → slice_index_or bs 0 0 ≡ 237 → 128 ≤ slice_index_or bs 1 0 → slice_index_or bs 1 0 ≤ 159 → 128 ≤ slice_index_or bs 2 0 → slice_index_or bs 2 0 ≤ 191 → is_utf8 bs ≡ true
unfolding is_utf8 whole run
below_surrogates [] l h a b c d e = absurd (omega arith)
below_surrogates (x ∷ []) l h a b c d e = absurd (omega arith)
below_surrogates (x ∷ y ∷ []) l h a b c d e = absurd (omega arith)
below_surrogates (x ∷ y ∷ z ∷ w ∷ r) l h a b c d e = absurd (omega arith)
below_surrogates (x ∷ y ∷ z ∷ []) l h a b c d e =
    ap whole
    (step fresh x (y ∷ z ∷ []) (want_of 2 0x80 0x9f) (led x ∙ lead_ed x a)
    ∙ step (want 2 0x80 0x9f) y (z ∷ []) (want_of 1 0x80 0xbf) (within 1 0x80 0x9f y b c)
    ∙ step (want 1 0x80 0xbf) z [] (Some fresh) (within 0 0x80 0xbf z d e))
