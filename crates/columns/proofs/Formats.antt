-- What a format string tells of its kind.
use Rattle.std.proofs.Common.{◌≡◌, ℕ, ◌^◌, ◌<◌, Bool, true, false, cond, ◌||◌, eqb, ◌⊎◌, List, [], ◌∷◌, drop, codes, refl, subst, ap₂, inl, inr, arith, lit<}
use mathlib.Core.Option.{Option, some, none}
use Rattle.std.proofs.lemmas.Bool.{and_parts, or_cases, eqb-true}
use Rattle.columns.specs.Kinds.{Kind, primitive, boolean, strings, views, lists, maps, structs, run_ended, fixed_lists, unknown, width_of, is_primitive}
use Rattle.columns.specs.Format.{kind_of, spellings, table, fixed_size, decimal, ends_format, same_bytes, highest}

pub bytes_same : (xs ys : List ℕ) → same_bytes xs ys ≡ true → xs ≡ ys
bytes_same [] [] e = refl
bytes_same [] (y ∷ ys) e = absurd (let z : ◌≡◌ {A = ℕ} 0 1 = cc in omega arith)
bytes_same (x ∷ xs) [] e = absurd (let z : ◌≡◌ {A = ℕ} 0 1 = cc in omega arith)
bytes_same (x ∷ xs) (y ∷ ys) e =
    let p = and_parts (eqb x y) (same_bytes xs ys) e in
    ap₂ {C = List ℕ} (λ a b. a ∷ b) (eqb-true x y p.0) (bytes_same xs ys p.1)

-- what holds of `s`, `i` and `l` holds of the format of run ends
of_ends : (P : List ℕ → Type 0) → P (codes "s") → P (codes "i") → P (codes "l") → (f : List ℕ) → ends_format f ≡ true → P f
unfolding ends_format
of_ends P s i l f e = elim (or_cases (same_bytes (codes "s") f) (same_bytes (codes "i") f || (same_bytes (codes "l") f || false)) e) [
  | inl a ↦ subst P (bytes_same (codes "s") f a) s
  | inr a ↦ elim (or_cases (same_bytes (codes "i") f) (same_bytes (codes "l") f || false) a) [
    | inl b ↦ subst P (bytes_same (codes "i") f b) i
    | inr b ↦ elim (or_cases (same_bytes (codes "l") f) false b) [
      | inl c ↦ subst P (bytes_same (codes "l") f c) l
      | inr c ↦ absurd (let z : ◌≡◌ {A = ℕ} 0 1 = cc in omega arith)
    ]
  ]
]

pub ends_primitive : (f : List ℕ) → ends_format f ≡ true → is_primitive (kind_of f) ≡ true
unfolding kind_of
ends_primitive f e = of_ends (λ g. is_primitive (kind_of g) ≡ true) refl refl refl f e

-- a signed number of that width is one of its bytes
pub ends_below : (f : List ℕ) → ends_format f ≡ true → highest (width_of (kind_of f)) < 256 ^ width_of (kind_of f)
unfolding kind_of
ends_below f e = of_ends (λ g. highest (width_of (kind_of g)) < 256 ^ width_of (kind_of g)) (lit< tt) (lit< tt) (lit< tt) f e

pub struct_kind : (f : List ℕ) → same_bytes (codes "+s") f ≡ true → kind_of f ≡ structs
unfolding kind_of
struct_kind f e = subst (λ g. kind_of g ≡ structs) (bytes_same (codes "+s") f e) refl

-- primitives are of one, two, four or eight bytes
abbrev pub WidthKnown : Kind → Type 0
WidthKnown (primitive w) = (w ≡ 1) ⊎ ((w ≡ 2) ⊎ ((w ≡ 4) ⊎ (w ≡ 8)))
WidthKnown boolean = Unit {0}
WidthKnown strings = Unit {0}
WidthKnown views = Unit {0}
WidthKnown lists = Unit {0}
WidthKnown maps = Unit {0}
WidthKnown structs = Unit {0}
WidthKnown run_ended = Unit {0}
WidthKnown (fixed_lists N) = Unit {0}
WidthKnown unknown = Unit {0}

abbrev AllWidths : List (Bool × Kind) → Type 0
AllWidths [] = Unit {0}
AllWidths (t ∷ ts) = WidthKnown t.1 × AllWidths ts

either_width : (b : Bool) (K J : Kind) → WidthKnown K → WidthKnown J → WidthKnown (cond b K J)
either_width true K J h g = h
either_width false K J h g = g

table_widths : (ts : List (Bool × Kind)) → AllWidths ts → WidthKnown (table ts unknown)
table_widths [] h = tt
table_widths (t ∷ ts) h = either_width t.0 t.1 (table ts unknown) h.0 (table_widths ts h.1)

fixed_width : (o : Option ℕ) → WidthKnown (fixed_size o)
fixed_width none = tt
fixed_width (some n) = tt

pub width_known : (f : List ℕ) → WidthKnown (kind_of f)
unfolding kind_of
width_known f = table_widths (spellings f) (inl refl, (inr (inl refl), (inr (inr (inl refl)), (inr (inr (inr refl)), (inr (inr (inr refl)), (tt, (tt, (tt, (tt, (tt, (tt, (tt, (fixed_width (decimal (drop 3 f)), tt)))))))))))))
