-- What a pen or a gauge has written.
use Rattle.std.specs.Prelude.{◌≡◌, ℕ, ◌+◌, ◌-◌, Bool, true, false, cond, List, [], ◌∷◌, length, nat_lt, slice_set, is_ok, Result}
use denote.Ref.{at_last}
use Rattle.reading.specs.declared.pen.Pen.{Pen}
use Rattle.reading.specs.declared.pen.Gauge.{Gauge}

-- One byte further, where nothing was refused before and there is room for it; the flag says whether all has gone in.
abbrev pub inked : {X : Type 0} (room : X → ℕ) (marked : X → ℕ → X) → X × Bool → ℕ → X × Bool
inked room marked s b = cond s.1 (cond (nat_lt 0 (room s.0)) (marked s.0 b, true) (s.0, false)) s

-- byte after byte
unfoldable pub wrote : {X : Type 0} (room : X → ℕ) (marked : X → ℕ → X) → X × Bool → List ℕ → X × Bool
wrote room marked s [] = s
wrote room marked s (b ∷ bs) = wrote room marked (inked room marked s b) bs

-- p has taken the byte b, or has no room for it, and is q
abbrev pub Inks : {X E : Type 0} (room : X → ℕ) (marked : X → ℕ → X) → X → ℕ → X → Result (Unit {0}) E → Type 0
Inks room marked p b q r = ◌≡◌ {A = _ × Bool} (q, is_ok r) (inked room marked (p, true) b)

-- p has taken the text t, or as much of it as there was room for, and is q
abbrev pub Wrote : {X E : Type 0} (room : X → ℕ) (marked : X → ℕ → X) → X → List ℕ → X → Result (Unit {0}) E → Type 0
Wrote room marked p t q r = ◌≡◌ {A = _ × Bool} (q, is_ok r) (wrote room marked (p, true) t)

-- A pen writes each byte where it stands, and goes on to the next place.
abbrev pub left : Pen → ℕ
left p = length p.text.now - p.place

abbrev pub marked : Pen → ℕ → Pen
marked p b = record { text = at_last p.text (slice_set p.text.now p.place b); place = p.place + 1 }

-- A gauge has room for one byte less.
abbrev pub lower : Gauge → ℕ → Gauge
lower g b = record { room = g.room - 1 }
