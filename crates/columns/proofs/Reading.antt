-- What the readings of items, heads and buffers leave as it was, and what they give of a parcel of bytes.
use Rattle.std.proofs.Common.{◌≡◌, ℕ, suc, ◌+◌, ◌-◌, ◌*◌, ◌%◌, ◌^◌, ◌<◌, ◌≤◌, Bool, true, false, cond, leb, List, [], ◌∷◌, ◌++◌, length, get_or, take, drop, sym, refl, ap, ◌∙◌, append_assoc, append-nil, mul-le-mul_right, arith, length-append, length-drop, length-take}
use mathlib.Core.Option.{Option, some, none}
use native.Mathlib.Nat.{pow-le-pow_right, pow-succ'}
use Rattle.std.specs.List.{AllByRecursion}
use Rattle.std.proofs.ByRecursion.{All-take, All-drop, All-push}
use Rattle.columns.specs.Kinds.{Kind}
use Rattle.columns.specs.Says.{slice, span}
use Rattle.columns.specs.Sound.{little_endian}
use Rattle.columns.specs.Widths.{Bytes}
use Rattle.columns.specs.Checks.{Denial, denial}
use Rattle.columns.specs.Reading.{Place, Outcome, denied, reached, Reading, onward, ◌>>=◌, give, must, item, item_of, step_over, big_endian, each_of}
use Rattle.columns.specs.Heads.{Head, head, head_from}
use Rattle.columns.specs.Sent.{buffer, buffer_if, buffer_length, mask_if, Data, brought, named, is_named, bring, data_buffer, data_buffer_sent, data_buffers, Sent, sends, buffers_of}

-- Numbers of so many bytes.
pub power_positive : (w : ℕ) → 0 < 256 ^ w
power_positive w = pow-le-pow_right {n = 256} (omega arith) {i = 0} {j = w} (omega arith)

pub little_below : (bs : List ℕ) → Bytes bs → little_endian bs < 256 ^ length bs
little_below [] h = omega arith
little_below (b ∷ bs) h = let r = little_below bs h.1 in let e = pow-succ' 256 (length bs) in let l = h.0 in omega arith

pub little_within : (w : ℕ) (bs : List ℕ) → length bs ≤ w → Bytes bs → little_endian bs < 256 ^ w
little_within w bs l h = let a = little_below bs h in let b = pow-le-pow_right {n = 256} (omega arith) l in omega arith

pub big_below : (bs : List ℕ) → Bytes bs → big_endian bs < 256 ^ length bs
big_below [] h = omega arith
big_below (b ∷ bs) h =
    let r = big_below bs h.1 in
    let l = h.0 in
    let m : suc b * 256 ^ length bs ≤ 256 * 256 ^ length bs = mul-le-mul_right (256 ^ length bs) l in
    let e = pow-succ' 256 (length bs) in
    let d = native.Mathlib.Nat.suc-mul b (256 ^ length bs) in
    omega arith

pub big_within : (w : ℕ) (bs : List ℕ) → length bs ≤ w → Bytes bs → big_endian bs < 256 ^ w
big_within w bs l h = let a = big_below bs h in let b = pow-le-pow_right {n = 256} (omega arith) l in omega arith

pub bytes_slice : (bs : List ℕ) (a n : ℕ) → Bytes bs → Bytes (slice bs a n)
bytes_slice bs a n h = All-take (λ b. b < 256) n (drop a bs) (All-drop (λ b. b < 256) a bs h)

-- What holds of the value and the place that a reading reaches, if it reaches one.
abbrev pub Yields : {A : Type 0} → Outcome A → (A → Place → Type 0) → Type 0
Yields (denied d) P = Unit {0}
Yields (reached a q) P = P a q

pub goes_on : {A B : Type 0} (o : Outcome A) (k : A → Reading B) (Q : A → Place → Type 0) (P : B → Place → Type 0) → Yields o Q → ((a : A) (q : Place) → Q a q → Yields (k a q) P) → Yields (onward o k) P
goes_on (denied d) k Q P y h = tt
goes_on (reached a q) k Q P y h = h a q y

pub weaker : {A : Type 0} (o : Outcome A) (P Q : A → Place → Type 0) → ((a : A) (q : Place) → P a q → Q a q) → Yields o P → Yields o Q
weaker (denied d) P Q h y = tt
weaker (reached a q) P Q h y = h a q y

pub both : {A : Type 0} (o : Outcome A) (P Q : A → Place → Type 0) → Yields o P → Yields o Q → Yields o (λ a q. P a q × Q a q)
both (denied d) P Q x y = tt
both (reached a q) P Q x y = (x, y)

-- The reading adds data buffers and takes none away.
pub record Adds (p q : Place) : Type 0 where
  pub more : List (List ℕ)
  pub buffers_are : q.buffers ≡ p.buffers ++ more

pub adds_none : (p q : Place) → q.buffers ≡ p.buffers → Adds p q
adds_none p q e = record { more = []; buffers_are = e ∙ sym (append-nil p.buffers) }

pub adds_on : (p q r : Place) → Adds p q → Adds q r → Adds p r
adds_on p q r x y =
    record { more = x.more ++ y.more; buffers_are = y.buffers_are ∙ ap (λ bs. bs ++ y.more) x.buffers_are ∙ append_assoc p.buffers x.more y.more }

-- Bytes stay ahead, and bytes are brought.
abbrev pub OfBytes : Place → Place → Type 0
OfBytes p q = Bytes q.ahead × (AllByRecursion Bytes p.buffers → AllByRecursion Bytes q.buffers)

-- A reading that begins no node. Given P, of a parcel of bytes it gives a value with Q.
abbrev pub Steps : {A : Type 0} → Type 0 → (A → Type 0) → Place → A → Place → Type 0
Steps P Q p a q = Adds p q × (q.nodes ≡ p.nodes) × (P → Bytes p.ahead → OfBytes p q × Q a)

abbrev pub Plain : {A : Type 0} → Type 0 → Reading A → (A → Type 0) → Type 0
Plain P m Q = (p : Place) → Yields (m p) (Steps P Q p)

plain_bind : {A B : Type 0} (P : Type 0) (m : Reading A) (k : A → Reading B) (Q : A → Type 0) (R : B → Type 0) → Plain P m Q → ((a : A) → Plain (P × Q a) (k a) R) → Plain P (m >>= k) R
plain_bind P m k Q R hm hk p = goes_on (m p) k (Steps P Q p) (Steps P R p) (hm p) (λ a p₁ g.
    weaker (k a p₁) (Steps (P × Q a) R p₁) (Steps P R p) (λ b q n. (
      adds_on p p₁ q g.0 n.0,
      n.1 ∙ g.1,
      λ x h. let u = g.2 x h in let v = n.2 (x, u.1) u.0.0 in ((v.0.0, λ z. v.0.1 (u.0.1 z)), v.1),
    )) (hk a p₁))

plain_give : {A : Type 0} (P : Type 0) (a : A) (Q : A → Type 0) → (P → Q a) → Plain P (give a) Q
plain_give P a Q h p = (adds_none p p refl, refl, λ x b. ((b, λ z. z), h x))

item_or : (P : Type 0) (b : Bool) (n : ℕ) (p : Place) (d : Denial) →
    Yields (cond b (reached (take n p.ahead) (step_over n p)) (denied d)) (Steps P (λ a. Bytes a × (length a ≤ n)) p)
item_or P true n p d = (
  adds_none p (step_over n p) refl,
  refl,
  λ x h. ((All-drop (λ b. b < 256) n p.ahead h, λ z. z), (All-take (λ b. b < 256) n p.ahead h, simp length-take (omega arith))),
)
item_or P false n p d = tt

plain_item_of : (P : Type 0) (n : ℕ) → Plain P (item_of n) (λ a. Bytes a × (length a ≤ n))
plain_item_of P n p = item_or P (leb n (length p.ahead)) n p (denial 1 p.passed)

plain_item : (P : Type 0) (size : List ℕ → ℕ) → Plain P (item size) Bytes
plain_item P size p =
    weaker (item size p) (Steps P (λ a. Bytes a × (length a ≤ size p.ahead)) p) (Steps P Bytes p) (λ a q g. (g.0, g.1, λ x h. let u = g.2 x h in (u.0, u.1.0))) (plain_item_of P (size p.ahead) p)

plain_buffer : (P : Type 0) → Plain P buffer Bytes
plain_buffer P =
    plain_bind P (item (λ bytes. 4 + buffer_length bytes)) (λ b. give (drop 4 b)) Bytes Bytes (plain_item P (λ bytes. 4 + buffer_length bytes))
    (λ b. plain_give (P × Bytes b) (drop 4 b) Bytes (λ x. All-drop (λ y. y < 256) 4 b x.1))

plain_buffer_if : (P : Type 0) (b : Bool) → Plain P (buffer_if b) Bytes
plain_buffer_if P true = plain_buffer P
plain_buffer_if P false = plain_give P [] Bytes (λ x. tt)

plain_mask : (P : Type 0) (b : Bool) → Plain P (mask_if b) (λ m. Unit {0})
plain_mask P true = plain_bind P buffer (λ b. give (some b)) Bytes (λ m. Unit {0}) (plain_buffer P) (λ b. plain_give (P × Bytes b) (some b) (λ m. Unit {0}) (λ x. tt))
plain_mask P false = plain_give {A = Option (List ℕ)} P none (λ m. Unit {0}) (λ x. tt)

plain_bring : (P : Type 0) (bytes : List ℕ) → (P → Bytes bytes) → Plain P (bring bytes) (λ d. Unit {0})
plain_bring P bytes h p = (record { more = bytes ∷ []; buffers_are = refl }, refl, λ x b. ((b, λ z. All-push Bytes p.buffers bytes z (h x)), tt))

plain_either : {A : Type 0} (P : Type 0) (b : Bool) (m k : Reading A) (Q : A → Type 0) → Plain P m Q → Plain P k Q → Plain P (cond b m k) Q
plain_either P true m k Q hm hk = hm
plain_either P false m k Q hm hk = hk

plain_data : (P : Type 0) → Plain P data_buffer (λ d. Unit {0})
plain_data P =
    plain_bind P (item (λ bytes. cond (is_named bytes) 4 (4 + buffer_length bytes))) data_buffer_sent Bytes (λ d. Unit {0}) (plain_item P (λ bytes. cond (is_named bytes) 4 (4 + buffer_length bytes)))
    (λ b. plain_either (P × Bytes b) (is_named b) (give (named (buffer_length b - 2 ^ 31))) (bring (drop 4 b)) (λ d. Unit {0})
    (plain_give (P × Bytes b) (named (buffer_length b - 2 ^ 31)) (λ d. Unit {0}) (λ x. tt)) (plain_bring (P × Bytes b) (drop 4 b) (λ x. All-drop (λ y. y < 256) 4 b x.1)))

plain_each : {X A : Type 0} (P : Type 0) (f : X → Reading A) (xs : List X) → ((P : Type 0) (x : X) → Plain P (f x) (λ a. Unit {0})) → Plain P (each_of f xs) (λ as'. Unit {0})
plain_each {A = A} P f [] h = plain_give {A = List A} P [] (λ as'. Unit {0}) (λ x. tt)
plain_each P f (x ∷ xs) h =
    plain_bind P (f x) (λ a. each_of f xs >>= λ as'. give (a ∷ as')) (λ a. Unit {0}) (λ as'. Unit {0}) (h P x) (λ a.
    plain_bind (P × Unit {0}) (each_of f xs) (λ as'. give (a ∷ as')) (λ as'. Unit {0}) (λ as'. Unit {0}) (plain_each (P × Unit {0}) f xs h)
    (λ as'. plain_give ((P × Unit {0}) × Unit {0}) (a ∷ as') (λ as'. Unit {0}) (λ u. tt)))

plain_datas : (P : Type 0) (b : Bool) → Plain P (data_buffers b) (λ ds. Unit {0})
plain_datas P true =
    plain_bind P (item (λ bytes. 2)) _ Bytes (λ ds. Unit {0}) (plain_item P (λ bytes. 2)) (λ c. plain_each (P × Bytes c) (λ i. data_buffer) _ (λ P i. plain_data P))
plain_datas P false = plain_give {A = List Data} P [] (λ ds. Unit {0}) (λ x. tt)

-- A head's format string and label.
abbrev pub HeadFits : Head → Type 0
HeadFits h = Bytes h.format × (length h.format < 2 ^ 7) × (h.label < 2 ^ 16)

pub plain_head : Plain (Unit {0}) head HeadFits
plain_head =
    plain_bind (Unit {0}) (item (λ bytes. 8)) (λ bits. item (λ bytes. get_or bits 0 0 % 128) >>= λ f. give (head_from bits f)) Bytes HeadFits (plain_item (Unit {0}) (λ bytes. 8)) (λ bits.
    plain_bind (Unit {0} × Bytes bits) (item (λ bytes. get_or bits 0 0 % 128)) (λ f. give (head_from bits f)) (λ f. Bytes f × (length f ≤ get_or bits 0 0 % 128)) HeadFits
    (plain_item_of (Unit {0} × Bytes bits) (get_or bits 0 0 % 128))
    (λ f. plain_give ((Unit {0} × Bytes bits) × (Bytes f × (length f ≤ get_or bits 0 0 % 128))) (head_from bits f) HeadFits (λ x. (
      x.1.0,
      (let l = x.1.1 in omega arith),
      big_within 2 (slice bits 1 2) (simp (length-take, length-drop) (omega arith)) (bytes_slice bits 1 2 x.0.1),
    ))))

pub plain_buffers : (K : Kind) (h : Head) → Plain (Unit {0}) (buffers_of K h) (λ s. Bytes s.body × Bytes s.text)
plain_buffers K h =
    plain_bind (Unit {0}) (mask_if h.masked) _ (λ m. Unit {0}) _ (plain_mask (Unit {0}) h.masked) (λ m.
    plain_bind (Unit {0} × Unit {0}) (buffer_if (sends K).0) _ Bytes _ (plain_buffer_if (Unit {0} × Unit {0}) (sends K).0) (λ b.
    plain_bind ((Unit {0} × Unit {0}) × Bytes b) (buffer_if (sends K).1) _ Bytes _ (plain_buffer_if _ (sends K).1) (λ t.
    plain_bind (((Unit {0} × Unit {0}) × Bytes b) × Bytes t) (data_buffers (sends K).2) _ (λ ds. Unit {0}) _ (plain_datas _ (sends K).2) (λ ds.
    plain_give {A = Sent} _ (record { mask = m; body = b; text = t; sent = ds }) (λ s. Bytes s.body × Bytes s.text) (λ x. (x.0.0.1, x.0.1))))))

pub must_yields : (b : Bool) (n : ℕ) (p : Place) → Yields (must b n p) (λ u q. Steps (Unit {0}) (λ a. Unit {0}) p u q × (b ≡ true))
must_yields true n p = ((adds_none p p refl, refl, λ x h. ((h, λ z. z), tt)), refl)
must_yields false n p = tt

-- no mask is read where none was announced
anything : {A : Type 0} (o : Outcome A) → Yields o (λ a q. Unit {0})
anything (denied d) = tt
anything (reached a q) = tt

mask_yields : (b : Bool) (p : Place) → Yields (mask_if b p) (λ m q. b ≡ false → m ≡ none)
mask_yields true p = weaker (mask_if true p) (λ m q. Unit {0}) (λ m q. true ≡ false → m ≡ none) (λ m q u f. absurd (let z : ◌≡◌ {A = ℕ} 0 1 = cc in omega arith)) (anything (mask_if true p))
mask_yields false p = λ f. refl

pub sent_mask : (K : Kind) (h : Head) (p : Place) → Yields (buffers_of K h p) (λ s q. h.masked ≡ false → s.mask ≡ none)
sent_mask K h p =
    goes_on (mask_if h.masked p) _ (λ m q. h.masked ≡ false → m ≡ none) _ (mask_yields h.masked p) (λ m p₁ none_read.
    goes_on (buffer_if (sends K).0 p₁) _ (λ b q. Unit {0}) _ (anything (buffer_if (sends K).0 p₁)) (λ b p₂ u.
    goes_on (buffer_if (sends K).1 p₂) _ (λ b q. Unit {0}) _ (anything (buffer_if (sends K).1 p₂)) (λ t p₃ u.
    goes_on (data_buffers (sends K).2 p₃) _ (λ b q. Unit {0}) _ (anything (data_buffers (sends K).2 p₃)) (λ ds p₄ u. none_read))))

-- A buffer that is brought has a number below the number of buffers then.
abbrev pub BroughtBelow : ℕ → Data → Type 0
BroughtBelow many (brought b) = b < many
BroughtBelow many (named b) = Unit {0}

pub adds_longer : (p q : Place) → Adds p q → length p.buffers ≤ length q.buffers
adds_longer p q a = let e = ap length a.buffers_are in let l = length-append p.buffers a.more in omega arith

below_longer : (m n : ℕ) → m ≤ n → (d : Data) → BroughtBelow m d → BroughtBelow n d
below_longer m n l (brought b) h = omega arith
below_longer m n l (named b) h = tt

only_adds : {A : Type 0} (P : Type 0) (Q : A → Type 0) (p : Place) (o : Outcome A) → Yields o (Steps P Q p) → Yields o (λ a q. Adds p q)
only_adds P Q p o y = weaker o (Steps P Q p) (λ a q. Adds p q) (λ a q g. g.0) y

data_below : (p : Place) → Yields (data_buffer p) (λ d q. Adds p q × BroughtBelow (length q.buffers) d)
data_below p =
    goes_on (item (λ bytes. cond (is_named bytes) 4 (4 + buffer_length bytes)) p) data_buffer_sent (λ b q. Adds p q) _ (only_adds (Unit {0}) Bytes p _ (plain_item (Unit {0}) (λ bytes. cond (is_named bytes) 4 (4 + buffer_length bytes)) p)) (λ b q a. go b (is_named b) q a)
  where
    go : (b : List ℕ) (t : Bool) (q : Place) → Adds p q → Yields (cond t (give (named (buffer_length b - 2 ^ 31))) (bring (drop 4 b)) q) (λ d r. Adds p r × BroughtBelow (length r.buffers) d)
    go b true q a = (a, tt)
    go b false q a =
        (adds_on p q (record { passed = q.passed; ahead = q.ahead; nodes = q.nodes; buffers = q.buffers ++ drop 4 b ∷ [] }) a (record { more = drop 4 b ∷ []; buffers_are = refl }), (let l = length-append q.buffers (drop 4 b ∷ []) in omega arith))

each_below : (xs : List ℕ) (p : Place) → Yields (each_of (λ (i : ℕ). data_buffer) xs p) (λ ds q. Adds p q × AllByRecursion (BroughtBelow (length q.buffers)) ds)
each_below [] p = (adds_none p p refl, tt)
each_below (x ∷ xs) p =
    goes_on (data_buffer p) (λ a. each_of (λ (i : ℕ). data_buffer) xs >>= λ as'. give (a ∷ as')) (λ d q. Adds p q × BroughtBelow (length q.buffers) d) _ (data_below p) (λ d p₁ g.
    goes_on (each_of (λ (i : ℕ). data_buffer) xs p₁) (λ as'. give (d ∷ as')) (λ ds q. Adds p₁ q × AllByRecursion (BroughtBelow (length q.buffers)) ds) _ (each_below xs p₁) (λ ds q h.
    (adds_on p p₁ q g.0 h.0, (below_longer (length p₁.buffers) (length q.buffers) (adds_longer p₁ q h.0) d g.1, h.1))))

datas_below : (b : Bool) (p : Place) → Yields (data_buffers b p) (λ ds q. AllByRecursion (BroughtBelow (length q.buffers)) ds)
datas_below true p =
    goes_on (item (λ bytes. 2) p) (λ c. each_of (λ i. data_buffer) (span 0 (big_endian c))) (λ c q. Unit {0}) _ (anything (item (λ bytes. 2) p)) (λ c q u.
    weaker (each_of (λ (i : ℕ). data_buffer) (span 0 (big_endian c)) q) (λ ds r. Adds q r × AllByRecursion (BroughtBelow (length r.buffers)) ds) (λ ds r. AllByRecursion (BroughtBelow (length r.buffers)) ds) (λ ds r g. g.1) (each_below (span 0 (big_endian c)) q))
datas_below false p = tt

pub sent_below : (K : Kind) (h : Head) (p : Place) → Yields (buffers_of K h p) (λ s q. AllByRecursion (BroughtBelow (length q.buffers)) s.sent)
sent_below K h p =
    goes_on (mask_if h.masked p) _ (λ m q. Unit {0}) _ (anything (mask_if h.masked p)) (λ m p₁ u.
    goes_on (buffer_if (sends K).0 p₁) _ (λ b q. Unit {0}) _ (anything (buffer_if (sends K).0 p₁)) (λ b p₂ u.
    goes_on (buffer_if (sends K).1 p₂) _ (λ b q. Unit {0}) _ (anything (buffer_if (sends K).1 p₂)) (λ t p₃ u.
    goes_on (data_buffers (sends K).2 p₃) _ (λ ds q. AllByRecursion (BroughtBelow (length q.buffers)) ds) _ (datas_below (sends K).2 p₃) (λ ds p₄ g. g))))
