use Rattle.std.proofs.Common.{◌≡◌, ℕ, ◌+◌, ◌<◌, ◌≤◌, Bool, true, List, [], ◌∷◌, ◌++◌, length, take, drop, sym, refl, ap, ◌∙◌, arith}
use Rattle.columns.specs.Checks as checks
use Rattle.columns.specs.Says.{span}
use Rattle.columns.specs.Reading.{Outcome, denied, onward, each_of, give, big_endian, Reading}
use Rattle.columns.specs.Sent.{Data, Sent, data_buffer, data_buffers}
use Rattle.parcels.specs.declared.draft.Place.{Place}
use Rattle.parcels.specs.declared.draft.Parts.{Parts}
use Rattle.parcels.specs.Reads.{placed, sent_of, Reaches, LentAs, SentAs, stepped}
use Rattle.columns.specs.Checks.{denial}
use Rattle.parcels.proofs.Reading.{item_long}
use Rattle.parcels.proofs.Along.{Left, left_start, left_more, left_denied, left_all, length_span}

pub record Walked (parcel : List ℕ) (p : Place) (bs : List (List ℕ)) (n k : ℕ) (q : Place) : Type 0 where
  pub so_far : List Data
  pub held : List (List ℕ)
  pub left : Left (λ (i : ℕ). data_buffer) (span 0 n) 0 (each_of (λ (i : ℕ). data_buffer) (span 0 n) (placed parcel p bs)) k so_far (placed parcel q held)
  pub counted : length held + p.brought ≡ length bs + q.brought

module _ (parcel : List ℕ) (p : Place) (bs : List (List ℕ)) (n : ℕ) where
  abbrev pub walked_start : Walked parcel p bs n 0 p
  walked_start = record { so_far = []; held = bs; left = left_start (λ (i : ℕ). data_buffer) (span 0 n) 0 (placed parcel p bs); counted = refl }

  abbrev pub walked_more : (k : ℕ) (q r : Place) (w : Walked parcel p bs n k q) → k < n → Reaches parcel q w.held r (data_buffer (placed parcel q w.held)) → Walked parcel p bs n (k + 1) r
  walked_more k q r w h g =
      record {
        so_far = w.so_far ++ g.given ∷ [];
        held = g.after;
        left = left_more (λ (i : ℕ). data_buffer) (span 0 n) 0 _ k w.so_far (placed parcel q w.held) (placed parcel r g.after) g.given w.left (rw length_span h) g.is;
        counted = omega (arith, w.counted, g.counted);
      }

  pub walked_denied : (k : ℕ) (q : Place) (w : Walked parcel p bs n k q) (d : checks.Denial) → k < n → data_buffer (placed parcel q w.held) ≡ denied d
      → each_of (λ (i : ℕ). data_buffer) (span 0 n) (placed parcel p bs) ≡ denied d
  walked_denied k q w d h g = left_denied (λ (i : ℕ). data_buffer) (span 0 n) 0 _ k w.so_far (placed parcel q w.held) d w.left (rw length_span h) g

  abbrev pub walked_all : (k : ℕ) (q : Place) (w : Walked parcel p bs n k q) → n ≤ k → Reaches parcel p bs q (each_of (λ (i : ℕ). data_buffer) (span 0 n) (placed parcel p bs))
  walked_all k q w h =
      record {
        given = w.so_far;
        after = w.held;
        is = left_all (λ (i : ℕ). data_buffer) (span 0 n) 0 _ k w.so_far (placed parcel q w.held) w.left (rw length_span h);
        counted = w.counted;
      }

module _ (parcel : List ℕ) (p : Place) (bs : List (List ℕ)) where
  abbrev counted_on : List ℕ → Reading (List Data)
  counted_on c = each_of (λ (i : ℕ). data_buffer) (span 0 (big_endian c))

  pub lent_open : (w : Bool) (n : ℕ) (q : Place) → w ≡ true → n ≡ big_endian (take 2 (drop p.at parcel)) → q ≡ stepped p 2 → p.at + 2 ≤ length parcel
      → data_buffers w (placed parcel p bs) ≡ each_of (λ (i : ℕ). data_buffer) (span 0 n) (placed parcel q bs)
  lent_open w n q t e s h =
      rw (t, s) (ap (λ (o : Outcome (List ℕ)). onward o counted_on) (item_long parcel p bs 2 h)
      ∙ ap (λ (m : ℕ). each_of (λ (i : ℕ). data_buffer) (span 0 m) (placed parcel (stepped p 2) bs)) (sym e))

  pub lent_told : (w : Bool) (n : ℕ) (q r : Place) → w ≡ true → n ≡ big_endian (take 2 (drop p.at parcel)) → q ≡ stepped p 2 → p.at + 2 ≤ length parcel
      → r.nodes ≡ q.nodes
      → Reaches parcel q bs r (each_of (λ (i : ℕ). data_buffer) (span 0 n) (placed parcel q bs))
      → LentAs parcel p bs (record { start = q.at; len = n }) r (data_buffers w (placed parcel p bs))
  lent_told w n q r t e s h k g =
      record {
        ds = g.given;
        after = g.after;
        is = lent_open w n q t e s h ∙ g.is;
        listed = ap (λ (m : ℕ). each_of (λ (i : ℕ). data_buffer) (span 0 n) (record { passed = q.at; ahead = drop q.at parcel; nodes = m; buffers = bs })) k ∙ g.is;
        counted = omega (arith, g.counted, ap (λ (x : Place). x.brought) s);
      }

-- the buffers of a node, when all but its data buffers are read
pub sent_told : (parcel : List ℕ) (p r q : Place) (bs : List (List ℕ)) (x : Parts) (d : Bool) (o : Outcome Sent) → r.brought ≡ p.brought
    → o ≡ onward (data_buffers d (placed parcel r bs)) (λ ds. give (sent_of parcel x ds)) → LentAs parcel r bs x.lent q (data_buffers d (placed parcel r bs)) → SentAs parcel p bs x q o
sent_told parcel p r q bs x d o k e g =
    record {
      ds = g.ds;
      after = g.after;
      is = e ∙ ap (λ (m : Outcome (List Data)). onward m (λ ds. give (sent_of parcel x ds))) g.is;
      listed = g.listed;
      counted = omega (arith, g.counted);
    }
