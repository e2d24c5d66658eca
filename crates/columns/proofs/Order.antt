-- A call's denial is that of the first of its checks that fails.
use Rattle.std.proofs.Common.{◌≡◌, ℕ, zero, suc, ◌+◌, ◌-◌, ◌%◌, ◌^◌, Bool, true, false, cond, eqb, leb, ◌↔◌, List, [], ◌∷◌, ◌++◌, length, get_or, take, drop, sym, refl, ap, ◌∙◌, subst, arith}
use mathlib.Core.Option.{Option, some, none}
use Rattle.std.specs.List.{AllByRecursion}
use Rattle.columns.specs.Kinds.{Kind, is_known}
use Rattle.columns.specs.Format.{kind_of}
use Rattle.columns.specs.Column.{nothing}
use Rattle.columns.specs.Says.{span}
use Rattle.columns.specs.Limits.{most_levels}
use Rattle.columns.specs.Checks.{Denial, denial, Check, unless, denied_or, first_denial, first_failing, failing_place}
use Rattle.columns.specs.Reading.{Place, Outcome, denied, reached, Reading, onward, ◌>>=◌, ◌>>◌, give, must, item, item_of, step_over, big_endian, each_of}
use Rattle.columns.specs.Heads.{Head, head, head_from, Role, free, roles, allowed, must_be_allowed}
use Rattle.columns.specs.Sent.{buffer, buffer_if, buffer_length, mask_if, Data, named, is_named, bring, data_buffer, data_buffer_sent, data_buffers, Sent, sends, buffers_of}
use Rattle.columns.specs.Parcel.{Found, found_node, node_read, at_end, start_of, parcel_read}
use Rattle.columns.specs.Pools.{Entries}
use Rattle.columns.specs.Ledger.{Shelf, Call, adds, reads, filing, interleaving, call_denial, file_checks, file_denial}
use Rattle.columns.specs.Order.{Spot, Stretch, ◌and_then◌, no_stretch, item_order, node_check, buffer_order, data_buffer_order, times, data_order, buffers_order, format_length, head_at, head_order, known_order, allowed_order, each_order, node_order, end_order}
use Rattle.columns.specs.Denials.{waiting_checks, call_checks, Passes, FirstToFail, FirstOf, DenialsAreFirst}

-- The first denial of a list.
all_none : (cs : List Check) → AllByRecursion Passes cs → first_denial cs ≡ none
all_none [] h = refl
all_none (c ∷ cs) h = rw h.0 (all_none cs h.1)

denial_after : (cs ds : List Check) → AllByRecursion Passes cs → first_denial (cs ++ ds) ≡ first_denial ds
denial_after [] ds h = refl
denial_after (c ∷ cs) ds h = rw h.0 (denial_after cs ds h.1)

denial_before : (cs ds : List Check) (d : Denial) → first_denial cs ≡ some d → first_denial (cs ++ ds) ≡ some d
denial_before [] ds d e = absurd (let z : ◌≡◌ {A = ℕ} 0 1 = cc in omega arith)
denial_before (c ∷ cs) ds d e = go c.1 e (denial_before cs ds d)
  where
    go : (o : Option ℕ) → denied_or c.0 o (first_denial cs) ≡ some d → (first_denial cs ≡ some d → first_denial (cs ++ ds) ≡ some d) → denied_or c.0 o (first_denial (cs ++ ds)) ≡ some d
    go none e more = more e
    go (some x) e more = e

all_both : (cs ds : List Check) → AllByRecursion Passes cs → AllByRecursion Passes ds → AllByRecursion Passes (cs ++ ds)
all_both [] ds h k = k
all_both (c ∷ cs) ds h k = (h.0, all_both cs ds h.1 k)

next_first : (c : Check) (cs : List Check) (d : Denial) → c.1 ≡ none → FirstToFail cs d → FirstToFail (c ∷ cs) d
next_first c cs d e f = record {
  before = c ∷ f.before;
  number = f.number;
  detail = f.detail;
  after = f.after;
  in_order = ap (λ xs. c ∷ xs) f.in_order;
  before_pass = (e, f.before_pass);
  its_denial = f.its_denial;
}

first_named : (cs : List Check) (d : Denial) → first_denial cs ≡ some d → FirstToFail cs d
first_named [] d e = absurd (let z : ◌≡◌ {A = ℕ} 0 1 = cc in omega arith)
first_named ((n, none) ∷ cs) d e = next_first (n, none) cs d refl (first_named cs d e)
first_named ((n, some x) ∷ cs) d e = record { before = []; number = n; detail = x; after = cs; in_order = refl; before_pass = tt; its_denial = cc }

named_first : (cs : List Check) (d : Denial) → FirstToFail cs d → first_denial cs ≡ some d
named_first cs d f =
    ap first_denial f.in_order ∙ denial_after f.before ((f.number, some f.detail) ∷ f.after) f.before_pass ∙ ap some (sym f.its_denial)

none_all : (cs : List Check) → first_denial cs ≡ none → AllByRecursion Passes cs
none_all [] e = tt
none_all ((n, none) ∷ cs) e = (refl, none_all cs e)
none_all ((n, some x) ∷ cs) e = absurd (let z : ◌≡◌ {A = ℕ} 0 1 = cc in omega arith)

-- A reading goes along a stretch: where a check fails it is denied so, and else it ends where the stretch does.
abbrev spot_of : Place → Spot
spot_of p = record { passed = p.passed; ahead = p.ahead; nodes = p.nodes }

abbrev Along : {A : Type 0} → (A → Type 0) → Outcome A → List Check × Spot → Type 0
Along P (denied d) w = first_denial w.0 ≡ some d
Along P (reached a q) w = AllByRecursion Passes w.0 × (spot_of q ≡ w.1) × P a

abbrev Any : {A : Type 0} → A → Type 0
Any a = Unit {0}

continues : {A : Type 0} (P : A → Type 0) (o : Outcome A) (cs : List Check) (w : List Check × Spot) → AllByRecursion Passes cs → Along P o w → Along P o (cs ++ w.0, w.1)
continues P (denied d) cs w h a = denial_after cs w.0 h ∙ a
continues P (reached a q) cs w h k = (all_both cs w.0 h k.0, k.1, k.2)

along_bind : {A B : Type 0} (P : A → Type 0) (Q : B → Type 0) (o : Outcome A) (k : A → Reading B) (u : List Check × Spot) (w : Stretch) →
    Along P o u → ((a : A) (q : Place) → P a → spot_of q ≡ u.1 → Along Q (k a q) (w (spot_of q))) → Along Q (onward o k) (u.0 ++ (w u.1).0, (w u.1).1)
along_bind P Q (denied d) k u w x h = denial_before u.0 (w u.1).0 d x
along_bind P Q (reached a q) k u w x h = continues Q (k a q) u.0 (w u.1) x.0 (subst (λ y. Along Q (k a q) (w y)) x.1 (h a q x.2 x.1))

last_value : {A B : Type 0} (P : A → Type 0) (Q : B → Type 0) (o : Outcome A) (f : A → B) (u : List Check × Spot) → Along P o u → ((a : A) → P a → Q (f a)) → Along Q (onward o (λ a. give (f a))) u
last_value P Q (denied d) f u x h = x
last_value P Q (reached a q) f u x h = (x.0, x.1, h a x.2)

along_item : (n : ℕ) (p : Place) → Along (λ a. a ≡ take n p.ahead) (item_of n p) (item_order n (spot_of p))
along_item n p = go (leb n (length p.ahead))
  where
    go : (b : Bool) → Along (λ a. a ≡ take n p.ahead) (cond b (reached (take n p.ahead) (step_over n p)) (denied (denial 1 p.passed)))
        ((1, unless b p.passed) ∷ [], record { passed = p.passed + n; ahead = drop n p.ahead; nodes = p.nodes })
    go true = ((refl, tt), refl, refl)
    go false = refl

along_must : (number : ℕ) (holds : Spot → Bool) (p : Place) → Along Any (must (holds (spot_of p)) number p) (node_check number holds (spot_of p))
along_must number holds p = go (holds (spot_of p))
  where
    go : (b : Bool) → Along Any (must b number p) ((number, unless b (p.nodes - 1)) ∷ [], spot_of p)
    go true = ((refl, tt), refl, tt)
    go false = refl

along_buffer : (p : Place) → Along Any (buffer p) (buffer_order true (spot_of p))
along_buffer p = last_value (λ a. a ≡ take (4 + buffer_length p.ahead) p.ahead) Any (item_of (4 + buffer_length p.ahead) p) (λ b. drop 4 b) (buffer_order true (spot_of p)) (along_item (4 + buffer_length p.ahead) p) (λ a h. tt)

along_buffer_if : (b : Bool) (p : Place) → Along Any (buffer_if b p) (buffer_order b (spot_of p))
along_buffer_if true p = along_buffer p
along_buffer_if false p = (tt, refl, tt)

along_mask : (b : Bool) (p : Place) → Along Any (mask_if b p) (buffer_order b (spot_of p))
along_mask true p = last_value Any Any (buffer p) some (buffer_order true (spot_of p)) (along_buffer p) (λ a h. tt)
along_mask false p = (tt, refl, tt)

sent_stays : (b : List ℕ) (p : Place) → Along Any (data_buffer_sent b p) (no_stretch (spot_of p))
sent_stays b p = go (is_named b)
  where
    go : (t : Bool) → Along Any (cond t (give (named (buffer_length b - 2 ^ 31))) (bring (drop 4 b)) p) (no_stretch (spot_of p))
    go true = (tt, refl, tt)
    go false = (tt, refl, tt)

nothing_after : {A B : Type 0} (P : A → Type 0) (Q : B → Type 0) (o : Outcome A) (k : A → Reading B) (u : List Check × Spot) → Along P o u → ((a : A) (q : Place) → P a → Along Q (k a q) (no_stretch (spot_of q))) → Along Q (onward o k) u
nothing_after P Q (denied d) k u x h = x
nothing_after P Q (reached a q) k u x h = go (k a q) (h a q x.2)
  where
    go : (o : Outcome _) → Along Q o ([], spot_of q) → Along Q o u
    go (denied d) y = absurd (let z : ◌≡◌ {A = ℕ} 0 1 = cc in omega arith)
    go (reached b r) y = (x.0, y.1 ∙ x.1, y.2)

along_data : (p : Place) → Along Any (data_buffer p) (data_buffer_order (spot_of p))
along_data p =
    let n : ℕ = cond (is_named p.ahead) 4 (4 + buffer_length p.ahead) in
    nothing_after (λ a. a ≡ take n p.ahead) Any (item_of n p) data_buffer_sent (item_order n (spot_of p)) (along_item n p) (λ b q h. sent_stays b q)

along_times : (i n : ℕ) (p : Place) → Along Any (each_of (λ (i : ℕ). data_buffer) (span i n) p) (times n data_buffer_order (spot_of p))
along_times i zero p = (tt, refl, tt)
along_times i (suc n) p =
    along_bind Any Any (data_buffer p) (λ a. each_of (λ (i : ℕ). data_buffer) (span (suc i) n) >>= λ as'. give (a ∷ as')) (data_buffer_order (spot_of p)) (times n data_buffer_order) (along_data p) (λ a q h e.
    last_value Any Any (each_of (λ (i : ℕ). data_buffer) (span (suc i) n) q) (λ as'. a ∷ as') (times n data_buffer_order (spot_of q)) (along_times (suc i) n q) (λ as' u. tt))

along_datas : (b : Bool) (p : Place) → Along Any (data_buffers b p) (data_order b (spot_of p))
along_datas true p =
    along_bind (λ a. a ≡ take 2 p.ahead) Any (item_of 2 p) (λ c. each_of (λ i. data_buffer) (span 0 (big_endian c))) (item_order 2 (spot_of p)) (times (big_endian (take 2 p.ahead)) data_buffer_order) (along_item 2 p)
    (λ c q h e. subst (λ n. Along Any (each_of (λ (i : ℕ). data_buffer) (span 0 (big_endian c)) q) (times n data_buffer_order (spot_of q))) (ap big_endian h) (along_times 0 (big_endian c) q))
along_datas false p = (tt, refl, tt)

along_buffers : (K : Kind) (h : Head) (p : Place) → Along Any (buffers_of K h p) (buffers_order K h (spot_of p))
along_buffers K h p =
    along_bind Any Any (mask_if h.masked p) _ (buffer_order h.masked (spot_of p)) (buffer_order (sends K).0 and_then buffer_order (sends K).1 and_then data_order (sends K).2) (along_mask h.masked p) (λ m p₁ u e.
    along_bind Any Any (buffer_if (sends K).0 p₁) _ (buffer_order (sends K).0 (spot_of p₁)) (buffer_order (sends K).1 and_then data_order (sends K).2) (along_buffer_if (sends K).0 p₁) (λ b p₂ u e.
    along_bind Any Any (buffer_if (sends K).1 p₂) _ (buffer_order (sends K).1 (spot_of p₂)) (data_order (sends K).2) (along_buffer_if (sends K).1 p₂) (λ t p₃ u e.
    last_value Any Any (data_buffers (sends K).2 p₃) (λ (ds : List Data). record { mask = m; body = b; text = t; sent = ds }) (data_order (sends K).2 (spot_of p₃)) (along_datas (sends K).2 p₃) (λ ds u. tt))))

along_head : (p : Place) → Along (λ h. h ≡ head_at (spot_of p)) (head p) (head_order (format_length (spot_of p)) (spot_of p))
along_head p =
    along_bind (λ bits. bits ≡ take 8 p.ahead) (λ h. h ≡ head_at (spot_of p)) (item_of 8 p) (λ bits. item (λ bytes. get_or bits 0 0 % 128) >>= λ f. give (head_from bits f)) (item_order 8 (spot_of p))
    (item_order (format_length (spot_of p))) (along_item 8 p) (λ bits q b e.
    subst (λ n. Along (λ h. h ≡ head_at (spot_of p)) ((item (λ bytes. get_or bits 0 0 % 128) >>= λ f. give (head_from bits f)) q) (item_order n (spot_of q))) (ap (λ bs. get_or bs 0 0 % 128) b)
    (last_value (λ f. f ≡ take (get_or bits 0 0 % 128) q.ahead) (λ h. h ≡ head_at (spot_of p)) (item_of (get_or bits 0 0 % 128) q) (head_from bits) (item_order (get_or bits 0 0 % 128) (spot_of q))
    (along_item (get_or bits 0 0 % 128) q) (λ f g. same_head bits f q b g e)))
  where
    same_head : (bits f : List ℕ) (q : Place) → bits ≡ take 8 p.ahead → f ≡ take (get_or bits 0 0 % 128) q.ahead → spot_of q ≡ (item_order 8 (spot_of p)).1 → head_from bits f ≡ head_at (spot_of p)
    same_head bits f q b g e =
        ap (head_from bits) (g ∙ ap (λ (x : Spot). take (get_or bits 0 0 % 128) x.ahead) e)
        ∙ ap (λ bs. head_from bs (take (get_or bs 0 0 % 128) (drop 8 p.ahead))) b

along_each : (f : Role → Reading Found) (v : Role → Stretch) → ((r : Role) (p : Place) → Along Any (f r p) (v r (spot_of p))) → (rs : List Role) (p : Place) → Along Any (each_of f rs p) (each_order v rs (spot_of p))
along_each f v h [] p = (tt, refl, tt)
along_each f v h (r ∷ rs) p =
    along_bind Any Any (f r p) (λ a. each_of f rs >>= λ as'. give (a ∷ as')) (v r (spot_of p)) (each_order v rs) (h r p) (λ a q u e.
    last_value Any Any (each_of f rs q) (λ as'. a ∷ as') (each_order v rs (spot_of q)) (along_each f v h rs q) (λ as' u. tt))

abbrev begun : Place → Place
begun p = record { passed = p.passed; ahead = p.ahead; nodes = suc p.nodes; buffers = p.buffers }

-- what a node's reading does after its head
module _ (before levels : ℕ) (role : Role) (h : Head) where
  abbrev K : Kind
  K = kind_of h.format

  abbrev with_kids : Sent → Place → List Found → Found
  with_kids s p kids = found_node before role K h s (p.nodes - 1) p.buffers kids

  abbrev kids_read : Sent → Reading Found
  kids_read s p = (each_of (node_read before levels) (roles K h) >>= λ kids. give (with_kids s p kids)) p

  abbrev buffers_read : Reading Found
  buffers_read = buffers_of K h >>= kids_read

  abbrev rest_read : Reading Found
  rest_read = must (is_known K) 2 >> (must_be_allowed (suc levels) role K h >> buffers_read)

  abbrev kids_order : Stretch
  kids_order = each_order (node_order levels) (roles K h)

  abbrev rest_order : Stretch
  rest_order = known_order h and_then allowed_order (suc levels) role h and_then buffers_order K h and_then kids_order

  along_rest : ((r : Role) (p : Place) → Along Any (node_read before levels r p) (node_order levels r (spot_of p))) → (p : Place) → Along Any (rest_read p) (rest_order (spot_of p))
  along_rest deeper p =
      along_bind Any Any (must (is_known K) 2 p) (λ u. must_be_allowed (suc levels) role K h >> buffers_read) (known_order h (spot_of p))
      (allowed_order (suc levels) role h and_then buffers_order K h and_then kids_order) (along_must 2 (λ x. is_known K) p) (λ u p₁ v e.
      along_bind Any Any (must_be_allowed (suc levels) role K h p₁) (λ u. buffers_read) (allowed_order (suc levels) role h (spot_of p₁)) (buffers_order K h and_then kids_order)
      (along_must 3 (λ x. allowed (suc levels) role K h x.nodes) p₁) (λ u p₂ v e.
      along_bind Any Any (buffers_of K h p₂) kids_read (buffers_order K h (spot_of p₂)) kids_order (along_buffers K h p₂) (λ s p₃ v e.
      last_value Any Any (each_of (node_read before levels) (roles K h) p₃) (with_kids s p₃) (kids_order (spot_of p₃))
      (along_each (node_read before levels) (node_order levels) deeper (roles K h) p₃) (λ kids u. tt))))

  abbrev last_read : Reading Found
  last_read = must (is_known K) 2 >> (must_be_allowed zero role K h >> give (record { found = nothing; checks = [] }))

  along_last : (p : Place) → Along Any (last_read p) ((known_order h and_then allowed_order zero role h) (spot_of p))
  along_last p =
      along_bind Any Any (must (is_known K) 2 p) (λ u. must_be_allowed zero role K h >> give (record { found = nothing; checks = [] })) (known_order h (spot_of p)) (allowed_order zero role h) (along_must 2 (λ x. is_known K) p) (λ u p₁ v e.
      last_value Any Any (must_be_allowed zero role K h p₁) (λ u. record { found = nothing; checks = [] }) (allowed_order zero role h (spot_of p₁)) (along_must 3 (λ x. allowed zero role K h x.nodes) p₁) (λ u v. tt))

along_node : (before levels : ℕ) (role : Role) (p : Place) → Along Any (node_read before levels role p) (node_order levels role (spot_of p))
unfolding node_read node_order
along_node before zero role p =
    let h₀ : Head = head_at (spot_of p) in
    along_bind (λ h. h ≡ h₀) Any (head (begun p)) (last_read before zero role) (head_order (format_length (spot_of p)) (spot_of (begun p))) (known_order h₀ and_then allowed_order zero role h₀) (along_head (begun p))
    (λ h q g e. subst (λ x. Along Any (last_read before zero role h q) ((known_order x and_then allowed_order zero role x) (spot_of q))) g (along_last before zero role h q))
along_node before (suc levels) role p =
    let h₀ : Head = head_at (spot_of p) in
    along_bind (λ h. h ≡ h₀) Any (head (begun p)) (rest_read before levels role) (head_order (format_length (spot_of p)) (spot_of (begun p))) (rest_order before levels role h₀) (along_head (begun p))
    (λ h q g e. subst (λ x. Along Any (rest_read before levels role h q) (rest_order before levels role x (spot_of q))) g (along_rest before levels role h (along_node before levels) q))

along_end : (p : Place) → Along Any (at_end p) (end_order (spot_of p))
along_end p = go (eqb (length p.ahead) 0)
  where
    go : (b : Bool) → Along {A = Unit {0}} Any (cond b (reached tt p) (denied (denial 1 p.passed))) ((1, unless b p.passed) ∷ [], spot_of p)
    go true = ((refl, tt), refl, tt)
    go false = refl

along_parcel : (shelved : List (List ℕ)) (parcel : List ℕ) → Along Any (parcel_read shelved parcel) ((node_order most_levels free and_then end_order) (spot_of (start_of shelved parcel)))
along_parcel shelved parcel =
    let p : Place = start_of shelved parcel in
    along_bind Any Any (node_read (length shelved) most_levels free p) (λ f. at_end >> give f) (node_order most_levels free (spot_of p)) end_order (along_node (length shelved) most_levels free p) (λ f q u e.
    last_value Any Any (at_end q) (λ x. f) (end_order (spot_of q)) (along_end q) (λ x u. tt))

filed_in_order : (lengths : Entries) (s : Shelf) (o : Outcome Found) (w : List Check × Spot) → Along Any o w → file_denial lengths s o ≡ first_denial (w.0 ++ waiting_checks lengths s o)
filed_in_order lengths s (denied d) w a = sym (denial_before w.0 [] d a)
filed_in_order lengths s (reached f p) w a = sym (denial_after w.0 (file_checks lengths s f p) a.0)

in_order : (lengths : Entries) (s : Shelf) (c : Call) → call_denial lengths s c ≡ first_denial (call_checks lengths s c)
in_order lengths s (adds (filing parcel)) = filed_in_order lengths s (parcel_read s.buffers parcel) _ (along_parcel s.buffers parcel)
in_order lengths s (adds (interleaving js ps)) = refl
in_order lengths s (reads j r room) = refl

-- The first of a list that fails.
next_of : {X : Type 0} (test : X → Bool) (y : X) (xs : List X) (k : ℕ) (x : X) → test y ≡ true → FirstOf test xs k x → FirstOf test (y ∷ xs) (suc k) x
next_of test y xs k x e f = record {
  before = y ∷ f.before;
  after = f.after;
  in_order = ap (λ zs. y ∷ zs) f.in_order;
  its_place = ap suc f.its_place;
  it_fails = f.it_fails;
  before_pass = (e, f.before_pass);
}

first_here : {X : Type 0} (test : X → Bool) (x : X) (xs : List X) → test x ≡ false → FirstOf test (x ∷ xs) 0 x
first_here test x xs e = record { before = []; after = xs; in_order = refl; its_place = refl; it_fails = e; before_pass = tt }

find_first : {X : Type 0} (test : X → Bool) (xs : List X) (x : X) → first_failing test xs ≡ some x → (k : ℕ) × FirstOf test xs k x
find_first test [] x e = absurd (let z : ◌≡◌ {A = ℕ} 0 1 = cc in omega arith)
find_first test (y ∷ xs) x e = go (test y) refl e (find_first test xs x)
  where
    go : (t : Bool) → test y ≡ t → cond t (first_failing test xs) (some y) ≡ some x → (first_failing test xs ≡ some x → (k : ℕ) × FirstOf test xs k x) → (k : ℕ) × FirstOf test (y ∷ xs) k x
    go true a e more = let r = more e in (suc r.0, next_of test y xs r.0 x a r.1)
    go false a e more = let s : y ≡ x = cc in (0, subst (λ z. FirstOf test (y ∷ xs) 0 z) s (first_here test y xs a))

skip_first : {X : Type 0} (test : X → Bool) (before after : List X) (x : X) → AllByRecursion (λ y. test y ≡ true) before → test x ≡ false → first_failing test (before ++ x ∷ after) ≡ some x
skip_first test [] after x h e = rw e
skip_first test (y ∷ before) after x h e = rw h.0 (skip_first test before after x h.1 e)

find_place : {X : Type 0} (test : X → Bool) (n : ℕ) (xs : List X) (m : ℕ) → failing_place test n xs ≡ some m → (k : ℕ) × (m ≡ n + k) × ((x : X) × FirstOf test xs k x)
find_place test n [] m e = absurd (let z : ◌≡◌ {A = ℕ} 0 1 = cc in omega arith)
find_place test n (y ∷ xs) m e = go (test y) refl e (find_place test (suc n) xs m)
  where
    go : (t : Bool) → test y ≡ t → cond t (failing_place test (suc n) xs) (some n) ≡ some m → (failing_place test (suc n) xs ≡ some m → (k : ℕ) × (m ≡ suc n + k) × ((x : _) × FirstOf test xs k x)) →
        (k : ℕ) × (m ≡ n + k) × ((x : _) × FirstOf test (y ∷ xs) k x)
    go true a e more = let r = more e in (suc r.0, (let z = r.1 in omega arith), (r.2.0, next_of test y xs r.0 r.2.0 a r.2.1))
    go false a e more = let s : n ≡ m = cc in (0, omega arith, (y, first_here test y xs a))

skip_place : {X : Type 0} (test : X → Bool) (n : ℕ) (before after : List X) (x : X) → AllByRecursion (λ y. test y ≡ true) before → test x ≡ false → failing_place test n (before ++ x ∷ after) ≡ some (n + length before)
skip_place test n [] after x h e = rw e (ap some (omega arith))
skip_place test n (y ∷ before) after x h e = rw h.0 (skip_place test (suc n) before after x h.1 e ∙ ap some (omega arith))

first_named_of : {X : Type 0} (test : X → Bool) (xs : List X) (x : X) → (first_failing test xs ≡ some x) ↔ ((k : ℕ) × FirstOf test xs k x)
first_named_of test xs x = (find_first test xs x, λ f. ap (first_failing test) f.1.in_order ∙ skip_first test f.1.before f.1.after x f.1.before_pass f.1.it_fails)

place_named_of : {X : Type 0} (test : X → Bool) (xs : List X) (k : ℕ) → (failing_place test 0 xs ≡ some k) ↔ ((x : X) × FirstOf test xs k x)
place_named_of test xs k = (
  λ e. let r = find_place test 0 xs k e in let m : r.0 ≡ k = (let z = r.1 in omega arith) in (r.2.0, subst (λ i. FirstOf test xs i r.2.0) m r.2.1),
  λ f. ap (failing_place test 0) f.1.in_order ∙ skip_place test 0 f.1.before f.1.after f.0 f.1.before_pass f.1.it_fails ∙ ap some (let z = f.1.its_place in omega arith),
)

pub denials_are_first : DenialsAreFirst
denials_are_first = record {
  denied_by_first = λ lengths s c d. (λ e. first_named (call_checks lengths s c) d (sym (in_order lengths s c) ∙ e), λ f. in_order lengths s c ∙ named_first (call_checks lengths s c) d f);
  first_number = first_named_of;
  first_column = place_named_of;
  first_pair = place_named_of;
  accepted_by_all = λ lengths s c. (λ e. none_all (call_checks lengths s c) (sym (in_order lengths s c) ∙ e), λ h. in_order lengths s c ∙ all_none (call_checks lengths s c) h);
}
