-- The text of what a row says, as `read` writes it.
use Rattle.std.specs.Prelude.{ℕ, zero, suc, ◌+◌, ◌/◌, ◌%◌, true, false, cond, List, [], ◌∷◌, ◌++◌, codes, nat_lt}
use Rattle.std.specs.List.{flat_map}
use Rattle.columns.specs.Says.{Said, Saids, null, number, bit, bytes, list, struct, done, then}

abbrev pub hex_digit : ℕ → ℕ
hex_digit n = cond (nat_lt n 10) (48 + n) (87 + n)

abbrev pub hex_byte : ℕ → List ℕ
hex_byte b = hex_digit (b / 16) ∷ hex_digit (b % 16) ∷ []

-- the w bytes of a number, highest first
abbrev pub hex_number : ℕ → ℕ → List ℕ
hex_number zero v = []
hex_number (suc w) v = hex_number w (v / 256) ++ hex_byte (v % 256)

unfoldable mutual
  pub text : Said → List ℕ
  text null = codes "-"
  text (number w v) = hex_number w v
  text (bit true) = codes "t"
  text (bit false) = codes "f"
  text (bytes bs) = codes "\"" ++ flat_map hex_byte bs ++ codes "\""
  text (list xs) = codes "[" ++ texts xs ++ codes "]"
  text (struct xs) = codes "{" ++ texts xs ++ codes "}"

  -- with commas between
  pub texts : Saids → List ℕ
  texts done = []
  texts (then x xs) = text x ++ more xs

  more : Saids → List ℕ
  more done = []
  more (then x xs) = codes "," ++ text x ++ more xs
