use Rattle.std.proofs.Common.{◌≡◌, ℕ, ◌+◌, ◌-◌, ◌%◌, ◌^◌, ◌<◌, ◌≤◌, Bool, true, false, cond, leb, List, [], ◌∷◌, ◌++◌, length, get_or, take, drop, Some, sym, refl, ap, ◌∙◌, arith}
use Rattle.std.proofs.lemmas.List.{length-drop, drop-drop, drop-take, get_or-take, take-take, length_push}
use Rattle.std.proofs.lemmas.Bool.{le-leb, lt-leb, leb-true, leb-false}
use Rattle.std.proofs.lemmas.Grind.{common_steps}
use Rattle.std.specs.Int.{from_be_bytes, w16, w32}
use Rattle.columns.specs.Says.{slice}
use Rattle.columns.specs.Checks.{denial}
use Rattle.columns.specs.Reading.{Outcome, denied, reached, onward, item_of, item, give, big_endian, ◌>>=◌}
use Rattle.columns.specs.Sent.{buffer, buffer_length}
use Rattle.columns.specs.Heads.{head, head_from}
use Rattle.columns.specs.Reading as rules_reading
use Rattle.columns.specs.Sent as rules_sent
use Rattle.parcels.specs.declared.draft.Place.{Place}
use Rattle.parcels.specs.Reads.{placed, stepped, within, Reaches, name_in}
use Rattle.parcels.specs.Sents.{SentSo, SentAt, size_sent, name_sent}
use Rattle.parcels.specs.declared.sent.Sent.{Sent}
use Rattle.parcels.specs.declared.sent.Sent.TheVariants.{Brought, Named}

module _ (parcel : List ℕ) (p : Place) (bs : List (List ℕ)) where
  pub item_short : (n : ℕ) → p.at ≤ length parcel → length parcel < p.at + n → item_of n (placed parcel p bs) ≡ denied (denial 1 p.at)
  item_short n i h =
      ap (λ (b : Bool). cond b (reached (take n (drop p.at parcel)) (rules_reading.step_over n (placed parcel p bs))) (denied (denial 1 p.at)))
      (lt-leb n (length (drop p.at parcel)) (simp length-drop (omega arith)))

  pub item_long : (n : ℕ) → p.at + n ≤ length parcel
      → item_of n (placed parcel p bs) ≡ reached (take n (drop p.at parcel)) (placed parcel (stepped p n) bs)
  item_long n h =
      ap (λ (b : Bool). cond b (reached (take n (drop p.at parcel)) (rules_reading.step_over n (placed parcel p bs))) (denied (denial 1 p.at)))
      (le-leb n (length (drop p.at parcel)) (simp length-drop (omega arith)))
      ∙ ap (λ (l : List ℕ). reached (take n (drop p.at parcel)) (record { passed = p.at + n; ahead = l; nodes = p.nodes; buffers = bs })) (drop-drop n p.at parcel)

  pub buffer_long : (n : ℕ) → n ≡ buffer_length (drop p.at parcel) → p.at + (4 + n) ≤ length parcel
      → buffer (placed parcel p bs) ≡ reached (within parcel (record { start = p.at + 4; len = n })) (placed parcel (stepped p (4 + n)) bs)
  buffer_long n e h =
      ap (λ (m : ℕ). onward (item_of (4 + m) (placed parcel p bs)) (λ b. give (drop 4 b))) (sym e)
      ∙ ap (λ (o : Outcome (List ℕ)). onward o (λ b. give (drop 4 b))) (item_long (4 + n) h)
      ∙ ap (λ (l : List ℕ). reached l (placed parcel (stepped p (4 + n)) bs)) (drop-take 4 n (drop p.at parcel) ∙ ap (take n) (drop-drop 4 p.at parcel))

module _ (parcel : List ℕ) (p : Place) (bs : List (List ℕ)) where
  head_open : (n : ℕ) → p.at + 8 ≤ length parcel → n ≡ get_or (drop p.at parcel) 0 0 % 128
      → head (placed parcel p bs) ≡ onward (item_of n (placed parcel (stepped p 8) bs)) (λ f. give (head_from (take 8 (drop p.at parcel)) f))
  head_open n h e =
      ap (λ (o : Outcome (List ℕ)). onward o (λ bits. item (λ bytes. get_or bits 0 0 % 128) >>= λ f. give (head_from bits f))) (item_long parcel p bs 8 h)
      ∙ ap (λ (m : ℕ). onward (item_of m (placed parcel (stepped p 8) bs)) (λ f. give (head_from (take 8 (drop p.at parcel)) f)))
      (ap (λ (m : ℕ). m % 128) (get_or-take 8 (drop p.at parcel) 0 0 (omega arith)) ∙ sym e)

  pub head_long : (x : List ℕ) (n : ℕ) → x ≡ take 8 (drop p.at parcel) → n ≡ get_or x 0 0 % 128 → p.at + 8 + n ≤ length parcel
      → head (placed parcel p bs) ≡ reached (head_from x (within parcel (record { start = p.at + 8; len = n }))) (placed parcel (stepped (stepped p 8) n) bs)
  head_long x n e m i =
      head_open n (omega arith) (m ∙ ap (λ (l : List ℕ). get_or l 0 0 % 128) e ∙ ap (λ (k : ℕ). k % 128) (get_or-take 8 (drop p.at parcel) 0 0 (omega arith)))
      ∙ ap (λ (o : Outcome (List ℕ)). onward o (λ f. give (head_from (take 8 (drop p.at parcel)) f))) (item_long parcel (stepped p 8) bs n i)
      ∙ ap (λ (l : List ℕ). reached (head_from l (take n (drop (p.at + 8) parcel))) (placed parcel (stepped (stepped p 8) n) bs)) (sym e)

-- the numbers in the eight bytes of a header, and in the two of a count
pub label_is : (l : List ℕ) → 8 ≤ length l → from_be_bytes w16 (get_or l 1 0 ∷ get_or l 2 0 ∷ []) ≡ big_endian (slice l 1 2)
label_is l h = grind (arith, common_steps)

pub rows_are : (l : List ℕ) → 8 ≤ length l → from_be_bytes w32 (get_or l 4 0 ∷ get_or l 5 0 ∷ get_or l 6 0 ∷ get_or l 7 0 ∷ []) ≡ big_endian (slice l 4 4)
rows_are l h = grind (arith, common_steps)

pub count_is : (l : List ℕ) → length l ≡ 2 → from_be_bytes w16 l ≡ big_endian l
count_is l h = grind (arith, common_steps)

sent_by : (b c : Bool) (l : List ℕ) (n : ℕ) (q : rules_reading.Place) → c ≡ b
    → cond c (give (rules_sent.named (buffer_length l - 2 ^ 31))) (rules_sent.bring (drop 4 (take n l))) q ≡ cond b (reached (rules_sent.named (buffer_length l - 2 ^ 31)) q) (rules_sent.bring (drop 4 (take n l)) q)
sent_by true c l n q e = rw e refl
sent_by false c l n q e = rw e refl

sent_cases : (l : List ℕ) (n : ℕ) (q : rules_reading.Place) (b : Bool) → 4 ≤ n → leb (2 ^ 31) (buffer_length l) ≡ b
    → rules_sent.data_buffer_sent (take n l) q ≡ cond b (reached (rules_sent.named (buffer_length l - 2 ^ 31)) q) (rules_sent.bring (drop 4 (take n l)) q)
sent_cases l n q b h e =
    ap (λ (k : List ℕ). cond (leb (2 ^ 31) (big_endian k)) (give (rules_sent.named (big_endian k - 2 ^ 31))) (rules_sent.bring (drop 4 (take n l))) q) (take-take 4 n l h)
    ∙ sent_by b (leb (2 ^ 31) (buffer_length l)) l n q e

at_least : (b : Bool) (m : ℕ) → 4 ≤ cond b 4 (4 + m)
at_least true m = omega arith
at_least false m = omega arith

module _ (parcel : List ℕ) (p : Place) (bs : List (List ℕ)) where
  abbrev size : ℕ
  size = buffer_length (drop p.at parcel)

  abbrev next : ℕ → Outcome rules_sent.Data
  next n = onward (item_of n (placed parcel p bs)) rules_sent.data_buffer_sent

  pub data_short : p.at ≤ length parcel → length parcel < p.at + 4 → rules_sent.data_buffer (placed parcel p bs) ≡ denied (denial 1 p.at)
  data_short i h =
      let l = at_least (leb (2 ^ 31) size) size in
      ap (λ (o : Outcome (List ℕ)). onward o rules_sent.data_buffer_sent) (item_short parcel p bs (cond (leb (2 ^ 31) size) 4 (4 + size)) i (omega arith))

  pub data_named : 2 ^ 31 ≤ size → p.at + 4 ≤ length parcel
      → rules_sent.data_buffer (placed parcel p bs) ≡ reached (rules_sent.named (size - 2 ^ 31)) (placed parcel (stepped p 4) bs)
  data_named n h =
      let e = le-leb (2 ^ 31) size n in
      ap (λ (b : Bool). next (cond b 4 (4 + size))) e
      ∙ ap (λ (o : Outcome (List ℕ)). onward o rules_sent.data_buffer_sent) (item_long parcel p bs 4 h)
      ∙ sent_cases (drop p.at parcel) 4 (placed parcel (stepped p 4) bs) true (omega arith) e

  pub data_cut : size < 2 ^ 31 → p.at ≤ length parcel → length parcel < p.at + (4 + size) → rules_sent.data_buffer (placed parcel p bs) ≡ denied (denial 1 p.at)
  data_cut n i h =
      ap (λ (b : Bool). next (cond b 4 (4 + size))) (lt-leb (2 ^ 31) size n)
      ∙ ap (λ (o : Outcome (List ℕ)). onward o rules_sent.data_buffer_sent) (item_short parcel p bs (4 + size) i h)

  pub data_brought : size < 2 ^ 31 → p.at + (4 + size) ≤ length parcel
      → rules_sent.data_buffer (placed parcel p bs)
      ≡ reached (rules_sent.brought (length bs)) (placed parcel (stepped p (4 + size)) (bs ++ drop 4 (take (4 + size) (drop p.at parcel)) ∷ []))
  data_brought n h =
      let e = lt-leb (2 ^ 31) size n in
      ap (λ (b : Bool). next (cond b 4 (4 + size))) e
      ∙ ap (λ (o : Outcome (List ℕ)). onward o rules_sent.data_buffer_sent) (item_long parcel p bs (4 + size) h)
      ∙ sent_cases (drop p.at parcel) (4 + size) (placed parcel (stepped p (4 + size)) bs) false (omega arith) e

-- where the reading stands after a data buffer that is sent so
abbrev pub passed : Place → Sent → Place
passed p (Brought len) = record { at = p.at + (4 + len); nodes = p.nodes; brought = p.brought + 1 }
passed p (Named number) = record { at = p.at + 4; nodes = p.nodes; brought = p.brought }

-- a data buffer that is sent so, and lies in the parcel
module _ (parcel : List ℕ) (p : Place) (ahead : List ℕ) (a : ahead ≡ drop p.at parcel) where
  reads_so : (s : Sent) → SentAt parcel p.at s → p.at + size_sent s ≤ length parcel
      → (bs : List (List ℕ)) → Reaches parcel p bs (passed p s) (rules_sent.data_buffer (placed parcel p bs))
  reads_so (Named number) h i bs =
      record {
        given = rules_sent.named (buffer_length (drop p.at parcel) - 2 ^ 31);
        after = bs;
        is = data_named parcel p bs (leb-true (2 ^ 31) (buffer_length (drop p.at parcel)) h.0) i;
        counted = refl;
      }
  reads_so (Brought len) h i bs =
      let b : List ℕ = drop 4 (take (4 + len) (drop p.at parcel)) in
      record {
        given = rules_sent.brought (length bs);
        after = bs ++ b ∷ [];
        is =
            data_brought parcel p bs (leb-false (2 ^ 31) (buffer_length (drop p.at parcel)) h.0) (rw (← h.1) i)
            ∙ ap (λ (m : ℕ). reached (rules_sent.brought (length bs)) (placed parcel (stepped p (4 + m)) (bs ++ drop 4 (take (4 + m) (drop p.at parcel)) ∷ []))) (sym h.1);
        counted = simp length_push (omega arith);
      }

  names_so : (s : Sent) → SentAt parcel p.at s → p.at + size_sent s ≤ length parcel
      → (bs : List (List ℕ)) → name_in (rules_sent.data_buffer (placed parcel p bs)) ≡ name_sent s
  names_so (Named number) h i bs =
      ap name_in (data_named parcel p bs (leb-true (2 ^ 31) (buffer_length (drop p.at parcel)) h.0) i) ∙ ap (λ (n : ℕ). Some n) (sym h.1)
  names_so (Brought len) h i bs = ap name_in (data_brought parcel p bs (leb-false (2 ^ 31) (buffer_length (drop p.at parcel)) h.0) (rw (← h.1) i))

  module _ (s : Sent) (h : SentSo ahead s) (n : ℕ) (e : n ≡ size_sent s) (i : p.at + n ≤ length parcel) where
    pub sent_read : (bs : List (List ℕ)) → Reaches parcel p bs (passed p s) (rules_sent.data_buffer (placed parcel p bs))
    sent_read = reads_so s (rw (← a) h) (rw (← e) i)

    pub sent_named : (bs : List (List ℕ)) → name_in (rules_sent.data_buffer (placed parcel p bs)) ≡ name_sent s
    sent_named = names_so s (rw (← a) h) (rw (← e) i)
