use Rattle.std.proofs.Common.{◌≡◌, ℕ, ◌-◌, ◌<◌, ◌≤◌, Bool, true, false, ◌∙◌, ◌&&◌, eqb, ◌⊎◌, List, [], ◌∷◌, length, get_or, take, drop, sym, refl, ap, inl, inr, arith}
use Rattle.std.proofs.lemmas.List.{take_rest}
use Rattle.std.proofs.lemmas.Bool.{cases_eq, ne_eqb}
use Rattle.columns.specs.Format.{kind_of, offset_bytes, ends_format, decimal, fixed_size}
use Rattle.formats.specs.Spelled.{Meaning, told, spelled, one_char, two_chars, timed_of, tick_of, prim_of, stamp_of, fixed_of, lifted, simple, none_meant}
use mathlib.Core.Option as math

pub spelled_one : (l : List ℕ) → length l ≡ 1 → one_char (get_or l 0 0) ≡ spelled l
spelled_one [] h = absurd (omega arith)
spelled_one (a ∷ []) h = refl
spelled_one (a ∷ b ∷ l) h = absurd (omega arith)

pub spelled_none : (l : List ℕ) → length l < 1 → none_meant ≡ spelled l
spelled_none [] h = refl
spelled_none (a ∷ l) h = absurd (omega arith)

pub spelled_two : (l : List ℕ) (a b : ℕ) → length l ≡ 2 → a ≡ get_or l 0 0 → b ≡ get_or l 1 0 → two_chars a b ≡ spelled l
spelled_two [] a b h p q = absurd (omega arith)
spelled_two (x ∷ []) a b h p q = absurd (omega arith)
spelled_two (x ∷ y ∷ []) a b h p q = ap (λ (u : ℕ). two_chars u b) p ∙ ap (two_chars x) q
spelled_two (x ∷ y ∷ z ∷ l) a b h p q = absurd (omega arith)

pub spelled_stamp : (l : List ℕ) → 4 ≤ length l → get_or l 0 0 ≡ 116 → get_or l 1 0 ≡ 115 → get_or l 3 0 ≡ 58
    → stamp_of (tick_of (get_or l 2 0)) (take (length l - 4) (drop 4 l)) ≡ spelled l
spelled_stamp [] h a b d = absurd (omega arith)
spelled_stamp (x ∷ []) h a b d = absurd (omega arith)
spelled_stamp (x ∷ y ∷ []) h a b d = absurd (omega arith)
spelled_stamp (x ∷ y ∷ z ∷ []) h a b d = absurd (omega arith)
spelled_stamp (x ∷ y ∷ z ∷ w ∷ rest) h a b d =
    simp (a, b, d) (ap (λ (r : List ℕ). stamp_of (tick_of z) r) (take_rest (x ∷ y ∷ z ∷ w ∷ rest) 4))

pub spelled_fixed : (l : List ℕ) → 3 ≤ length l → get_or l 0 0 ≡ 43 → get_or l 1 0 ≡ 119 → get_or l 2 0 ≡ 58
    → fixed_of (lifted (decimal (take (length l - 3) (drop 3 l)))) ≡ spelled l
spelled_fixed [] h a b d = absurd (omega arith)
spelled_fixed (x ∷ []) h a b d = absurd (omega arith)
spelled_fixed (x ∷ y ∷ []) h a b d = absurd (omega arith)
spelled_fixed (x ∷ y ∷ z ∷ []) h a b d = simp (a, b, d)
spelled_fixed (x ∷ y ∷ z ∷ w ∷ rest) h a b d =
    simp (a, b, d) (ap (λ (r : List ℕ). fixed_of (lifted (decimal r))) (take_rest (x ∷ y ∷ z ∷ w ∷ rest) 3))

pub spelled_timed : (l : List ℕ) → length l ≡ 3 → get_or l 0 0 ≡ 116 → prim_of (timed_of (get_or l 1 0) (get_or l 2 0)) ≡ spelled l
spelled_timed [] h a = absurd (omega arith)
spelled_timed (x ∷ []) h a = absurd (omega arith)
spelled_timed (x ∷ y ∷ []) h a = absurd (omega arith)
spelled_timed (x ∷ y ∷ z ∷ []) h a = simp a
spelled_timed (x ∷ y ∷ z ∷ w ∷ rest) h a = absurd (omega arith)

-- a is k, or both tests say that it is not
apart : (k a : ℕ) → (a ≡ k) ⊎ ((eqb k a ≡ false) × (eqb a k ≡ false))
apart k a = elim (cases_eq a k) [ inl e ↦ inl e | inr n ↦ inr (ne_eqb k a (λ e. n (sym e)), ne_eqb a k n) ]

never : (x : Bool) → (x && false) ≡ false
never true = refl
never false = refl

abbrev fixed_size_meant : math.Option ℕ → Meaning
fixed_size_meant o = simple (fixed_size o) 4

fixed_is : (o : math.Option ℕ) → fixed_size_meant o ≡ fixed_of (lifted o)
fixed_is math.none = refl
fixed_is (math.some n) = refl

told_one : (a : ℕ) → told (a ∷ []) ≡ one_char a
unfolding kind_of offset_bytes ends_format
told_one a =
    elim (apart 99 a) [
      | inl e1 ↦ rw e1 refl
      | inr n2 ↦
          elim (apart 67 a) [
            | inl e3 ↦ rw e3 refl
            | inr n4 ↦
                elim (apart 115 a) [
                  | inl e5 ↦ rw e5 refl
                  | inr n6 ↦
                      elim (apart 83 a) [
                        | inl e7 ↦ rw e7 refl
                        | inr n8 ↦
                            elim (apart 101 a) [
                              | inl e9 ↦ rw e9 refl
                              | inr n10 ↦
                                  elim (apart 105 a) [
                                    | inl e11 ↦ rw e11 refl
                                    | inr n12 ↦
                                        elim (apart 73 a) [
                                          | inl e13 ↦ rw e13 refl
                                          | inr n14 ↦
                                              elim (apart 102 a) [
                                                | inl e15 ↦ rw e15 refl
                                                | inr n16 ↦
                                                    elim (apart 108 a) [
                                                      | inl e17 ↦ rw e17 refl
                                                      | inr n18 ↦
                                                          elim (apart 76 a) [
                                                            | inl e19 ↦ rw e19 refl
                                                            | inr n20 ↦
                                                                elim (apart 103 a) [
                                                                  | inl e21 ↦ rw e21 refl
                                                                  | inr n22 ↦
                                                                      elim (apart 98 a) [
                                                                        | inl e23 ↦ rw e23 refl
                                                                        | inr n24 ↦
                                                                            elim (apart 117 a) [
                                                                              | inl e25 ↦ rw e25 refl
                                                                              | inr n26 ↦
                                                                                  elim (apart 122 a) [
                                                                                    | inl e27 ↦ rw e27 refl
                                                                                    | inr n28 ↦
                                                                                        elim (apart 85 a) [
                                                                                          | inl e29 ↦ rw e29 refl
                                                                                          | inr n30 ↦
                                                                                              elim (apart 90 a) [
                                                                                                | inl e31 ↦ rw e31 refl
                                                                                                | inr n32 ↦
                                                                                                    simp (never, n2.0, n2.1, n4.0, n4.1, n6.0, n6.1, n8.0, n8.1, n10.0, n10.1, n12.0, n12.1, n14.0, n14.1, n16.0, n16.1, n18.0, n18.1, n20.0, n20.1, n22.0, n22.1, n24.0, n24.1, n26.0, n26.1, n28.0, n28.1, n30.0, n30.1, n32.0, n32.1)
                                                                                              ]
                                                                                        ]
                                                                                  ]
                                                                            ]
                                                                      ]
                                                                ]
                                                          ]
                                                    ]
                                              ]
                                        ]
                                  ]
                            ]
                      ]
                ]
          ]
    ]

told_two : (a b : ℕ) → told (a ∷ b ∷ []) ≡ two_chars a b
unfolding kind_of offset_bytes ends_format
told_two a b =
    elim (apart 118 a) [
      | inl e33 ↦ elim (apart 117 b) [
        | inl e35 ↦ rw (e33, e35) refl
        | inr n36 ↦
            elim (apart 122 b) [
              | inl e37 ↦ rw (e33, e37) refl
              | inr n38 ↦
                  simp (never, e33, n36.0, n36.1, n38.0, n38.1)
            ]
      ]
      | inr n34 ↦
          elim (apart 43 a) [
            | inl e39 ↦ elim (apart 108 b) [
              | inl e41 ↦ rw (e39, e41) refl
              | inr n42 ↦
                  elim (apart 76 b) [
                    | inl e43 ↦ rw (e39, e43) refl
                    | inr n44 ↦
                        elim (apart 109 b) [
                          | inl e45 ↦ rw (e39, e45) refl
                          | inr n46 ↦
                              elim (apart 115 b) [
                                | inl e47 ↦ rw (e39, e47) refl
                                | inr n48 ↦
                                    elim (apart 114 b) [
                                      | inl e49 ↦ rw (e39, e49) refl
                                      | inr n50 ↦
                                          simp (never, e39, n34.0, n34.1, n42.0, n42.1, n44.0, n44.1, n46.0, n46.1, n48.0, n48.1, n50.0, n50.1)
                                    ]
                              ]
                        ]
                  ]
            ]
            | inr n40 ↦
                simp (never, n34.0, n34.1, n40.0, n40.1)
          ]
    ]

told_three : (a b c : ℕ) → told (a ∷ b ∷ c ∷ []) ≡ spelled (a ∷ b ∷ c ∷ [])
unfolding kind_of offset_bytes ends_format
told_three a b c =
    elim (apart 116 a) [
      | inl e51 ↦ elim (apart 100 b) [
        | inl e53 ↦ elim (apart 68 c) [
          | inl e55 ↦ rw (e51, e53, e55) refl
          | inr n56 ↦
              elim (apart 109 c) [
                | inl e57 ↦ rw (e51, e53, e57) refl
                | inr n58 ↦
                    simp (never, e51, e53, n56.0, n56.1, n58.0, n58.1)
              ]
        ]
        | inr n54 ↦
            elim (apart 105 b) [
              | inl e59 ↦ elim (apart 77 c) [
                | inl e61 ↦ rw (e51, e59, e61) refl
                | inr n62 ↦
                    elim (apart 68 c) [
                      | inl e63 ↦ rw (e51, e59, e63) refl
                      | inr n64 ↦
                          simp (never, e51, e59, n54.0, n54.1, n62.0, n62.1, n64.0, n64.1)
                    ]
              ]
              | inr n60 ↦
                  elim (apart 116 b) [
                    | inl e65 ↦ elim (apart 115 c) [
                      | inl e67 ↦ rw (e51, e65, e67) refl
                      | inr n68 ↦
                          elim (apart 109 c) [
                            | inl e69 ↦ rw (e51, e65, e69) refl
                            | inr n70 ↦
                                elim (apart 117 c) [
                                  | inl e71 ↦ rw (e51, e65, e71) refl
                                  | inr n72 ↦
                                      elim (apart 110 c) [
                                        | inl e73 ↦ rw (e51, e65, e73) refl
                                        | inr n74 ↦
                                            simp (never, e51, e65, n54.0, n54.1, n60.0, n60.1, n68.0, n68.1, n70.0, n70.1, n72.0, n72.1, n74.0, n74.1)
                                      ]
                                ]
                          ]
                    ]
                    | inr n66 ↦
                        elim (apart 68 b) [
                          | inl e75 ↦ elim (apart 115 c) [
                            | inl e77 ↦ rw (e51, e75, e77) refl
                            | inr n78 ↦
                                elim (apart 109 c) [
                                  | inl e79 ↦ rw (e51, e75, e79) refl
                                  | inr n80 ↦
                                      elim (apart 117 c) [
                                        | inl e81 ↦ rw (e51, e75, e81) refl
                                        | inr n82 ↦
                                            elim (apart 110 c) [
                                              | inl e83 ↦ rw (e51, e75, e83) refl
                                              | inr n84 ↦
                                                  simp (never, e51, e75, n54.0, n54.1, n60.0, n60.1, n66.0, n66.1, n78.0, n78.1, n80.0, n80.1, n82.0, n82.1, n84.0, n84.1)
                                            ]
                                      ]
                                ]
                          ]
                          | inr n76 ↦
                              simp (never, e51, n54.0, n54.1, n60.0, n60.1, n66.0, n66.1, n76.0, n76.1)
                        ]
                  ]
            ]
      ]
      | inr n52 ↦
          elim (apart 43 a) [
            | inl e85 ↦ elim (apart 119 b) [
              | inl e87 ↦ elim (apart 58 c) [
                | inl e89 ↦ rw (e85, e87, e89) refl
                | inr n90 ↦
                    simp (never, e85, e87, n52.0, n52.1, n90.0, n90.1)
              ]
              | inr n88 ↦
                  simp (never, e85, n52.0, n52.1, n88.0, n88.1)
            ]
            | inr n86 ↦
                simp (never, n52.0, n52.1, n86.0, n86.1)
          ]
    ]

fixed_told : (d : ℕ) (rest : List ℕ) → told (43 ∷ 119 ∷ 58 ∷ d ∷ rest) ≡ spelled (43 ∷ 119 ∷ 58 ∷ d ∷ rest)
unfolding kind_of offset_bytes ends_format
fixed_told d rest = fixed_is (decimal (d ∷ rest))

told_four : (a b c d : ℕ) (rest : List ℕ) → told (a ∷ b ∷ c ∷ d ∷ rest) ≡ spelled (a ∷ b ∷ c ∷ d ∷ rest)
unfolding kind_of offset_bytes ends_format
told_four a b c d rest =
    elim (apart 116 a) [
      | inl e91 ↦ elim (apart 115 b) [
        | inl e93 ↦ elim (apart 58 d) [
          | inl e95 ↦ elim (apart 115 c) [
            | inl e97 ↦ rw (e91, e93, e95, e97) refl
            | inr n98 ↦
                elim (apart 109 c) [
                  | inl e99 ↦ rw (e91, e93, e95, e99) refl
                  | inr n100 ↦
                      elim (apart 117 c) [
                        | inl e101 ↦ rw (e91, e93, e95, e101) refl
                        | inr n102 ↦
                            elim (apart 110 c) [
                              | inl e103 ↦ rw (e91, e93, e95, e103) refl
                              | inr n104 ↦
                                  simp (never, e91, e93, e95, n98.0, n98.1, n100.0, n100.1, n102.0, n102.1, n104.0, n104.1)
                            ]
                      ]
                ]
          ]
          | inr n96 ↦
              simp (never, e91, e93, n96.0, n96.1)
        ]
        | inr n94 ↦
            simp (never, e91, n94.0, n94.1)
      ]
      | inr n92 ↦
          elim (apart 43 a) [
            | inl e105 ↦ elim (apart 119 b) [
              | inl e107 ↦ elim (apart 58 c) [
                | inl e109 ↦ rw (e105, e107, e109) (fixed_told d rest)
                | inr n110 ↦
                    simp (never, e105, e107, n92.0, n92.1, n110.0, n110.1)
              ]
              | inr n108 ↦
                  simp (never, e105, n92.0, n92.1, n108.0, n108.1)
            ]
            | inr n106 ↦
                simp (never, n92.0, n92.1, n106.0, n106.1)
          ]
    ]

pub told_is : (l : List ℕ) → told l ≡ spelled l
unfolding kind_of offset_bytes ends_format
told_is [] = refl
told_is (a ∷ []) = told_one a
told_is (a ∷ b ∷ []) = told_two a b
told_is (a ∷ b ∷ c ∷ []) = told_three a b c
told_is (a ∷ b ∷ c ∷ d ∷ rest) = told_four a b c d rest
