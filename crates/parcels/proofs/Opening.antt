use Rattle.std.proofs.Common.{◌≡◌, ℕ, zero, suc, ◌+◌, ◌-◌, ◌<◌, ◌≤◌, Bool, true, false, not, ◌&&◌, eqb, ltb, leb, List, [], length, drop, sym, refl, ap, ◌∙◌, arith}
use Rattle.columns.specs.Checks.{denial}
use Rattle.columns.specs.Checks as checks
use Rattle.columns.specs.Kinds.{Kind, primitive, boolean, strings, views, lists, maps, structs, run_ended, fixed_lists, unknown, is_known}
use Rattle.columns.specs.Format.{kind_of}
use Rattle.columns.specs.Column.{nothing}
use Rattle.columns.specs.Limits.{most_rows}
use Rattle.columns.specs.Kinds.{is_run_ended}
use Rattle.columns.specs.Reading.{Outcome, denied, reached, onward, Reading, give, each_of, must, here, begin_node, ◌>>=◌, ◌>>◌}
use Rattle.columns.specs.Parcel.{Found, node_read}
use Rattle.columns.specs.Heads.{roles, head, must_be_allowed, allowed, ends_for, map_entries, free}
use Rattle.columns.specs.Sent.{buffers_of, sends}
use Rattle.columns.specs.Reading as rules_reading
use Rattle.columns.specs.Heads as rules_heads
use Rattle.columns.specs.Sent as rules_sent
use Rattle.parcels.specs.Opens.{kids_read, OpenedAs}
use Rattle.parcels.specs.Roles.{head_with, allowed_meant, role_meant}
use Rattle.formats.specs.Spelled.{told, format_meant, none_meant, Meaning}
use Rattle.parcels.specs.Reads.{placed, head_of, within, parts_read, sent_of, SentAs}
use Rattle.parcels.specs.declared.draft.Place.{Place}
use Rattle.parcels.specs.declared.draft.Head.{Head}
use Rattle.parcels.specs.declared.draft.Parts.{Parts}
use Rattle.formats.specs.declared.format.Format.{Format}
use Rattle.formats.specs.declared.format.Format.TheVariants.{Primitive, Timestamp, Boolean, Text, View, Map, Struct, RunEnds, FixedList}
use Rattle.formats.specs.declared.format.Format.TheVariants.{List as ListOf}
use Rattle.std.proofs.lemmas.Bool.{and_parts, eqb-true, leb-true, ltb-true}

abbrev begun : rules_reading.Place → rules_reading.Place
begun p = record { passed = p.passed; ahead = p.ahead; nodes = suc p.nodes; buffers = p.buffers }

module _ (before : ℕ) where
  abbrev last : ℕ → rules_heads.Role → rules_heads.Head → Reading Found
  last zero role h = give (record { found = nothing; checks = [] })
  last (suc levels) role h = buffers_of (kind_of h.format) h >>= λ s. kids_read before levels role h s

  abbrev third : ℕ → rules_heads.Role → rules_heads.Head → Reading Found
  third levels role h = must_be_allowed levels role (kind_of h.format) h >> last levels role h

  abbrev second : ℕ → rules_heads.Role → rules_heads.Head → Reading Found
  second levels role h = must (is_known (kind_of h.format)) 2 >> third levels role h

  node_opens : (levels : ℕ) (role : rules_heads.Role) (p : rules_reading.Place) → node_read before levels role p ≡ onward (head (begun p)) (second levels role)
  unfolding node_read
  node_opens zero role p = refl
  node_opens (suc levels) role p = refl

  module _ (levels : ℕ) (role : rules_heads.Role) (p : rules_reading.Place) where
    pub denied_head : (d : checks.Denial) → head (begun p) ≡ denied d → node_read before levels role p ≡ denied d
    denied_head d e = node_opens levels role p ∙ ap (λ (o : Outcome rules_heads.Head). onward o (second levels role)) e

    module _ (h : rules_heads.Head) (q : rules_reading.Place) (e : head (begun p) ≡ reached h q) where
      at_second : node_read before levels role p ≡ second levels role h q
      at_second = node_opens levels role p ∙ ap (λ (o : Outcome rules_heads.Head). onward o (second levels role)) e

      pub denied_unknown : is_known (kind_of h.format) ≡ false → node_read before levels role p ≡ denied (denial 2 (q.nodes - 1))
      denied_unknown k = at_second ∙ ap (λ (b : Bool). onward (must b 2 q) (λ _. third levels role h)) k

      at_third : is_known (kind_of h.format) ≡ true → node_read before levels role p ≡ third levels role h q
      at_third k = at_second ∙ ap (λ (b : Bool). onward (must b 2 q) (λ _. third levels role h)) k

      pub denied_place : is_known (kind_of h.format) ≡ true → allowed levels role (kind_of h.format) h q.nodes ≡ false → node_read before levels role p ≡ denied (denial 3 (q.nodes - 1))
      denied_place k a = at_third k ∙ ap (λ (b : Bool). onward (must b 3 q) (λ _. last levels role h)) a

      at_last : is_known (kind_of h.format) ≡ true → allowed levels role (kind_of h.format) h q.nodes ≡ true → node_read before levels role p ≡ last levels role h q
      at_last k a = at_third k ∙ ap (λ (b : Bool). onward (must b 3 q) (λ _. last levels role h)) a

  last_open : (levels : ℕ) (role : rules_heads.Role) (h : rules_heads.Head) (q : rules_reading.Place) → 0 < levels
      → last levels role h q ≡ onward (buffers_of (kind_of h.format) h q) (λ s. kids_read before (levels - 1) role h s)
  last_open zero role h q l = absurd (omega arith)
  last_open (suc levels) role h q l = ap (λ (n : ℕ). onward (buffers_of (kind_of h.format) h q) (λ s. kids_read before n role h s)) (let e : levels ≡ suc levels - 1 = omega arith in e)

  module _ (levels : ℕ) (role : rules_heads.Role) (p : rules_reading.Place) (h : rules_heads.Head) (q : rules_reading.Place) (e : head (begun p) ≡ reached h q)
      (k : is_known (kind_of h.format) ≡ true) (a : allowed levels role (kind_of h.format) h q.nodes ≡ true) (l : 0 < levels) where
    pub denied_buffers : (d : checks.Denial) → buffers_of (kind_of h.format) h q ≡ denied d → node_read before levels role p ≡ denied d
    denied_buffers d g =
        at_last levels role p h q e k a ∙ last_open levels role h q l ∙ ap (λ (o : Outcome rules_sent.Sent). onward o (λ s. kids_read before (levels - 1) role h s)) g

    pub opened : (s : rules_sent.Sent) (r : rules_reading.Place) → buffers_of (kind_of h.format) h q ≡ reached s r → node_read before levels role p ≡ kids_read before (levels - 1) role h s r
    opened s r g =
        at_last levels role p h q e k a ∙ last_open levels role h q l ∙ ap (λ (o : Outcome rules_sent.Sent). onward o (λ s. kids_read before (levels - 1) role h s)) g

-- the roles go by the child count and the rows
pub roles_by : (K : Kind) (h : rules_heads.Head) → roles K h ≡ roles K (head_with h.child_count h.rows)
roles_by (primitive w) h = refl
roles_by boolean h = refl
roles_by strings h = refl
roles_by views h = refl
roles_by lists h = refl
roles_by maps h = refl
roles_by structs h = refl
roles_by run_ended h = refl
roles_by (fixed_lists N) h = refl
roles_by unknown h = refl

role_by : (role : rules_heads.Role) (h : rules_heads.Head) → rules_heads.role_allowed role h ≡ role_meant role (told h.format) h.masked h.child_count
role_by (ends_for rows) h = refl
role_by map_entries h = refl
role_by free h = refl

pub allowed_is : (levels : ℕ) (role : rules_heads.Role) (h : rules_heads.Head) (nodes : ℕ)
    → allowed levels role (kind_of h.format) h nodes ≡ allowed_meant levels role (told h.format) h.masked h.child_count h.rows nodes
allowed_is levels role h nodes =
    ap (λ (b : Bool). eqb h.child_count (length (roles (kind_of h.format) h)) && not (is_run_ended (kind_of h.format) && h.masked) && b && leb h.rows 1048576 && leb nodes 256 && ltb 0 levels) (role_by role h)
    ∙ ap (λ (rs : List rules_heads.Role). eqb h.child_count (length rs) && not (is_run_ended (kind_of h.format) && h.masked) && role_meant role (told h.format) h.masked h.child_count && leb h.rows 1048576 && leb nodes 256 && ltb 0 levels)
    (roles_by (kind_of h.format) h)

pub record Allowed (levels : ℕ) (K : Kind) (h : rules_heads.Head) (nodes : ℕ) : Type 0 where
  pub children : h.child_count ≡ length (roles K h)
  pub rows : h.rows ≤ most_rows
  pub few : nodes ≤ 256
  pub deep : 0 < levels

six : (a b c d e f : Bool) → (a && b && c && d && e && f) ≡ true → (a ≡ true) × (d ≡ true) × (e ≡ true) × (f ≡ true)
six a b c d e f h =
    let x = and_parts (a && b && c && d && e) f h in
    let y = and_parts (a && b && c && d) e x.0 in
    let z = and_parts (a && b && c) d y.0 in
    let w = and_parts (a && b) c z.0 in
    ((and_parts a b w.0).0, z.1, y.1, x.1)

pub allowed_facts : (levels : ℕ) (role : rules_heads.Role) (K : Kind) (h : rules_heads.Head) (nodes : ℕ) → allowed levels role K h nodes ≡ true → Allowed levels K h nodes
allowed_facts levels role K h nodes t =
    let x = six (eqb h.child_count (length (roles K h))) (not (is_run_ended K && h.masked)) (rules_heads.role_allowed role h) (leb h.rows 1048576) (leb nodes 256) (ltb 0 levels) t in
    record { children = eqb-true h.child_count (length (roles K h)) x.0; rows = leb-true h.rows most_rows x.1; few = leb-true nodes 256 x.2; deep = ltb-true 0 levels x.3 }

pub known_meant : (f : Format) → is_known (format_meant f).kind ≡ true
known_meant (Primitive a b) = refl
known_meant (Timestamp u z) = refl
known_meant Boolean = refl
known_meant (Text w) = refl
known_meant View = refl
known_meant (ListOf w) = refl
known_meant Map = refl
known_meant Struct = refl
known_meant RunEnds = refl
known_meant (FixedList n) = refl

abbrev pub begun_place : Place → Place
begun_place p = record { at = p.at; nodes = p.nodes + 1; brought = p.brought }

module _ (parcel : List ℕ) (p : Place) (bs : List (List ℕ)) where
  begun_is : begun (placed parcel p bs) ≡ placed parcel (begun_place p) bs
  begun_is = ap (λ (n : ℕ). record { passed = p.at; ahead = drop p.at parcel; nodes = n; buffers = bs }) (let e : suc p.nodes ≡ p.nodes + 1 = omega arith in e)

  pub begin_denied : (before levels : ℕ) (role : rules_heads.Role) (d : checks.Denial) → denied d ≡ head (placed parcel (begun_place p) bs) → node_read before levels role (placed parcel p bs) ≡ denied d
  begin_denied before levels role d e = denied_head before levels role (placed parcel p bs) d (ap head begun_is ∙ sym e)

  module _ (h : Head) (q : Place) (e : reached (head_of parcel h) (placed parcel q bs) ≡ head (placed parcel (begun_place p) bs)) (n : q.nodes ≡ p.nodes + 1) where
    headed : head (begun (placed parcel p bs)) ≡ reached (head_of parcel h) (placed parcel q bs)
    headed = ap head begun_is ∙ sym e

    number : q.nodes - 1 ≡ p.nodes
    number = omega arith

    pub begin_unknown : (before levels : ℕ) (role : rules_heads.Role) → none_meant ≡ told (within parcel h.format) → node_read before levels role (placed parcel p bs) ≡ denied (denial 2 p.nodes)
    begin_unknown before levels role u =
        denied_unknown before levels role (placed parcel p bs) (head_of parcel h) (placed parcel q bs) headed (ap (λ (m : Meaning). is_known m.kind) (sym u))
        ∙ ap (λ (m : ℕ). denied (denial 2 m)) number

    module _ (f : Format) (m : format_meant f ≡ told (within parcel h.format)) where
      known : is_known (kind_of (within parcel h.format)) ≡ true
      known = ap (λ (x : Meaning). is_known x.kind) (sym m) ∙ known_meant f

      allows : (levels : ℕ) (role : rules_heads.Role) → allowed levels role (kind_of (within parcel h.format)) (head_of parcel h) q.nodes ≡ allowed_meant levels role (format_meant f) h.masked h.children h.rows (p.nodes + 1)
      allows levels role =
          allowed_is levels role (head_of parcel h) q.nodes
          ∙ ap (λ (x : Meaning). allowed_meant levels role x h.masked h.children h.rows q.nodes) (sym m)
          ∙ ap (λ (x : ℕ). allowed_meant levels role (format_meant f) h.masked h.children h.rows x) n

      pub begin_misplaced : (before levels : ℕ) (role : rules_heads.Role) → allowed_meant levels role (format_meant f) h.masked h.children h.rows (p.nodes + 1) ≡ false
          → node_read before levels role (placed parcel p bs) ≡ denied (denial 3 p.nodes)
      begin_misplaced before levels role a =
          denied_place before levels role (placed parcel p bs) (head_of parcel h) (placed parcel q bs) headed known (allows levels role ∙ a)
          ∙ ap (λ (m : ℕ). denied (denial 3 m)) number

      module _ (levels : ℕ) (role : rules_heads.Role) (a : allowed_meant levels role (format_meant f) h.masked h.children h.rows (p.nodes + 1) ≡ true) where
        pub begin_facts : Allowed levels (kind_of (within parcel h.format)) (head_of parcel h) q.nodes
        begin_facts = allowed_facts levels role (kind_of (within parcel h.format)) (head_of parcel h) q.nodes (allows levels role ∙ a)

        module _ (sent : Bool × Bool × Bool) (s : sent ≡ sends (format_meant f).kind) where
          bufs : buffers_of (kind_of (within parcel h.format)) (head_of parcel h) (placed parcel q bs) ≡ parts_read h.masked sent.0 sent.1 sent.2 (placed parcel q bs)
          bufs = ap (λ (x : Bool × Bool × Bool). parts_read h.masked x.0 x.1 x.2 (placed parcel q bs)) (ap (λ (x : Meaning). sends x.kind) (sym m) ∙ sym s)

          pub begin_cut : (before : ℕ) (d : checks.Denial) → parts_read h.masked sent.0 sent.1 sent.2 (placed parcel q bs) ≡ denied d → node_read before levels role (placed parcel p bs) ≡ denied d
          begin_cut before d e =
              denied_buffers before levels role (placed parcel p bs) (head_of parcel h) (placed parcel q bs) headed known (allows levels role ∙ a) begin_facts.deep d (bufs ∙ e)

          pub begin_opened : (x : Parts) (r : Place) → q.brought ≡ p.brought → SentAs parcel q bs x r (parts_read h.masked sent.0 sent.1 sent.2 (placed parcel q bs)) → OpenedAs parcel p bs levels role (record { head = h; format = f; parts = x }) r
          begin_opened x r b g =
              record {
                ds = g.ds;
                after = g.after;
                is = λ before. opened before levels role (placed parcel p bs) (head_of parcel h) (placed parcel q bs) headed known (allows levels role ∙ a) begin_facts.deep (sent_of parcel x g.ds) (placed parcel r g.after) (bufs ∙ g.is);
                listed = g.listed;
                counted = omega (arith, g.counted);
              }
