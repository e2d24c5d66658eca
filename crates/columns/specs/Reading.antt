-- Readings of a parcel: items taken one after another, until one is denied.
use Rattle.std.specs.Prelude.{ℕ, suc, ◌+◌, ◌-◌, ◌*◌, ◌^◌, Bool, true, false, cond, List, [], ◌∷◌, length, take, drop, nat_le}
use Rattle.columns.specs.Checks.{Denial, denial}

infixl 20 ◌>>=◌
infixl 20 ◌>>◌
-- Where a reading stands: how many bytes it has read, the bytes ahead, how many nodes it has begun, and the data
-- buffers of the shelf with those that this parcel has brought so far.
pub record Place : Type 0 where
  pub passed : ℕ
  pub ahead : List ℕ
  pub nodes : ℕ
  pub buffers : List (List ℕ)

-- A reading ends in a denial, or gives a value and the place where it ended.
pub data Outcome (A : Type 0) : Type 0 where
  denied : Denial → Outcome A
  reached : A → Place → Outcome A

abbrev pub Reading : Type 0 → Type 0
Reading A = Place → Outcome A

abbrev pub onward : {A B : Type 0} → Outcome A → (A → Reading B) → Outcome B
onward (denied d) k = denied d
onward (reached a p) k = k a p

abbrev pub ◌>>=◌ : {A B : Type 0} → Reading A → (A → Reading B) → Reading B
(m >>= k) p = onward (m p) k

abbrev pub ◌>>◌ : {A B : Type 0} → Reading A → Reading B → Reading B
m >> k = m >>= λ x. k

abbrev pub give : {A : Type 0} → A → Reading A
give a p = reached a p

-- what must hold of the node begun last
abbrev pub must : Bool → (number : ℕ) → Reading Unit
must true number p = reached tt p
must false number p = denied (denial number (p.nodes - 1))

-- An item, whose size the bytes ahead may tell; the parcel may not end inside it.
abbrev pub step_over : ℕ → Place → Place
step_over n p = record { passed = p.passed + n; ahead = drop n p.ahead; nodes = p.nodes; buffers = p.buffers }

abbrev pub item_of : ℕ → Reading (List ℕ)
item_of n p = cond (nat_le n (length p.ahead)) (reached (take n p.ahead) (step_over n p)) (denied (denial 1 p.passed))

abbrev pub item : (List ℕ → ℕ) → Reading (List ℕ)
item size p = item_of (size p.ahead) p

-- a number of some bytes, most significant first
abbrev pub big_endian : List ℕ → ℕ
big_endian [] = 0
big_endian (b ∷ bs) = b * 256 ^ length bs + big_endian bs

-- one reading for each of a list
abbrev pub each_of : {X A : Type 0} → (X → Reading A) → List X → Reading (List A)
each_of f [] = give []
each_of f (x ∷ xs) = f x >>= λ a. each_of f xs >>= λ as'. give (a ∷ as')

abbrev pub begin_node : Reading Unit
begin_node p = reached tt (record { passed = p.passed; ahead = p.ahead; nodes = suc p.nodes; buffers = p.buffers })

abbrev pub here : Reading Place
here p = reached p p
