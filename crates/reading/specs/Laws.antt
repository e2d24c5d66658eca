-- What a pen does to its buffer, and what a gauge tells.
use Rattle.std.specs.Prelude.{◌≡◌, ℕ, ◌+◌, ◌-◌, ◌<◌, ◌≤◌, Bool, true, false, List, ◌++◌, length, take, drop}
use denote.Ref.{MutBor, at_last}
use Rattle.reading.specs.declared.pen.Pen.{Pen}
use Rattle.reading.specs.declared.pen.Gauge.{Gauge}
use Rattle.reading.specs.Inked.{left, marked, lower, wrote}

abbrev pub pen_at : MutBor (List ℕ) → ℕ → Pen
pen_at t i = record { text = t; place = i }

abbrev pub gauge_of : ℕ → Gauge
gauge_of n = record { room = n }

-- with a pen or a gauge that has refused nothing before
abbrev pub penned : Pen → List ℕ → Pen × Bool
penned p xs = wrote left marked (p, true) xs

abbrev pub gauged : Gauge → List ℕ → Gauge × Bool
gauged g xs = wrote (λ (x : Gauge). x.room) lower (g, true) xs

-- xs stands at place i, with all that was before and after it
abbrev pub pasted : MutBor (List ℕ) → ℕ → List ℕ → MutBor (List ℕ)
pasted t i xs = at_last t (take i t.now ++ xs ++ drop (i + length xs) t.now)

-- A text that fits is put where the pen is, and the pen goes on after it; of one that does not fit as much is put as there
-- is room for, and the rest is refused. A gauge with room for as many bytes as there are after the pen's place refuses
-- the same texts. A text in two parts is one part after the other.
pub record PensWriteInFront : Type 0 where
  pub fits : (t : MutBor (List ℕ)) (i : ℕ) (xs : List ℕ) → i + length xs ≤ length t.now → penned (pen_at t i) xs ≡ (pen_at (pasted t i xs) (i + length xs), true)
  pub over : (t : MutBor (List ℕ)) (i : ℕ) (xs : List ℕ) → i ≤ length t.now → length t.now < i + length xs →
      penned (pen_at t i) xs ≡ (pen_at (pasted t i (take (length t.now - i) xs)) (length t.now), false)
  pub gauge_fits : (n : ℕ) (xs : List ℕ) → length xs ≤ n → gauged (gauge_of n) xs ≡ (gauge_of (n - length xs), true)
  pub gauge_over : (n : ℕ) (xs : List ℕ) → n < length xs → gauged (gauge_of n) xs ≡ (gauge_of 0, false)
  pub in_turn : (s : Pen × Bool) (xs ys : List ℕ) → wrote left marked s (xs ++ ys) ≡ wrote left marked (wrote left marked s xs) ys
  pub gauge_in_turn : (s : Gauge × Bool) (xs ys : List ℕ) → wrote (λ (x : Gauge). x.room) lower s (xs ++ ys) ≡ wrote (λ (x : Gauge). x.room) lower (wrote (λ (x : Gauge). x.room) lower s xs) ys
