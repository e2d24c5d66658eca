use Rattle.std.proofs.Common.{◌≡◌, ℕ, ◌+◌, ◌-◌, ◌<◌, ◌≤◌, Bool, true, ◌&&◌, ltb, List, [], ◌∷◌, ◌++◌, map, length, get_or, take, set, sym, refl, ap, ◌∙◌, subst, arith}
use Rattle.std.specs.List.{between, flat_map, AllByRecursion}
use Rattle.std.proofs.lemmas.List.{map_push, length_push, length-map, take-set, take-take}
use Rattle.std.proofs.lemmas.List.Edits.{length-between, between_none}
use Rattle.columns.specs.Checks.{Check, unless, first_failing}
use Rattle.columns.specs.Checks as checks
use Rattle.columns.specs.Kinds.{Kind}
use Rattle.columns.specs.Format.{kind_of}
use Rattle.columns.specs.Column.{Node}
use Rattle.columns.specs.Reading.{Outcome, reached, denied, onward, give, each_of}
use Rattle.columns.specs.Sent.{Data}
use Rattle.columns.specs.Parcel.{Found, columns_from, found_node, node_read, named_before}
use Rattle.columns.specs.Heads.{roles}
use Rattle.columns.specs.Contents.{node_from}
use Rattle.columns.specs.SoundTests.{fills, role_sound}
use Rattle.columns.specs.Parcel as rules
use Rattle.columns.specs.Sent as rules_sent
use Rattle.columns.specs.Heads as rules_heads
use Rattle.parcels.specs.declared.draft.Place.{Place}
use Rattle.parcels.specs.declared.draft.Head.{Head}
use Rattle.parcels.specs.declared.begin.Opened.{Opened}
use Rattle.parcels.specs.declared.draft.Role.{Role}
use Rattle.parcels.specs.declared.draft.Below.{Below}
use Rattle.parcels.specs.declared.draft.Draft.{Draft}
use Rattle.columns.specs.Says.{span}
use Rattle.parcels.specs.Drafts.{kind_sound_by, below_more, below_of, checks_in, node_in, preorder, preorders, Traced, FoundAs, FoundInside, Drafted}
use Rattle.std.proofs.ByRecursion.{All-append}
use Rattle.parcels.specs.Opens.{OpenedAs, OpenedInside}
use Rattle.parcels.specs.Reads.{placed, head_of, sent_of, within}
use Rattle.parcels.specs.Roles.{role_of, free_role, head_with}
use Rattle.formats.specs.Spelled.{told, format_meant, Meaning}
use Rattle.formats.specs.declared.format.Format.{Format}
use Rattle.formats.specs.declared.kind.Kind.{Kind as Code}
use Rattle.formats.specs.Kinds.{layout, offset_width}
use Rattle.parcels.proofs.Opening.{roles_by}
use Rattle.parcels.proofs.Lents.{read_readable}
use Rattle.parcels.proofs.Along.{Left, left_start, left_more, left_denied, left_all}
use Rattle.parcels.proofs.Tracing.{traced_none, traced_append, traced_node, found_rows, sound_is, width_is, below_push, preorders_push, checks_push, between_split, between_kept, between_set}

-- the children so far
pub record Kids (parcel : List ℕ) (before levels : ℕ) (R : List rules_heads.Role) (p : Place) (bs : List (List ℕ)) (own k : ℕ) (here : Place) (below : Below) (D : List Draft) : Type 0 where
  pub fs : List Found
  pub held : List (List ℕ)
  pub left : Left (node_read before levels) R free_role (each_of (node_read before levels) R (placed parcel p bs)) k fs (placed parcel here held)
  pub counted : length held + p.brought ≡ length bs + here.brought
  pub counts : length fs ≡ k
  pub belows : below ≡ below_of own (map found_rows fs)
  pub traced : Traced parcel before bs p.nodes (between p.nodes here.nodes D) (flat_map (λ (x : Found). x.checks) fs) (preorders (columns_from fs)) held

pub record KidsInside (parcel : List ℕ) (p here : Place) (old new : List Draft) : Type 0 where
  pub some : p.nodes ≤ here.nodes
  pub few : here.nodes ≤ 256
  pub kept : take p.nodes new ≡ take p.nodes old
  pub good : AllByRecursion (Drafted parcel) (between p.nodes here.nodes new)

traced_at : (parcel : List ℕ) (before : ℕ) (bs after : List (List ℕ)) (n : ℕ) (xs ys : List Draft) (c c' : List Check) (l l' : List (Node × ℕ)) → xs ≡ ys → c ≡ c' → l ≡ l'
    → Traced parcel before bs n ys c' l' after → Traced parcel before bs n xs c l after
traced_at parcel before bs after n xs ys c c' l l' e f g t = rw (e, f, g) t

module _ (parcel : List ℕ) (before levels : ℕ) (R : List rules_heads.Role) (p : Place) (bs : List (List ℕ)) (own : ℕ) where
  pub kids_start : (D : List Draft) → Kids parcel before levels R p bs own 0 p (record { first = 0; second = 0; alike = true }) D
  unfolding preorders
  kids_start D =
      record {
        fs = [];
        held = bs;
        left = left_start (node_read before levels) R free_role (placed parcel p bs);
        counted = refl;
        counts = refl;
        belows = refl;
        traced = rw (between_none D p.nodes) (traced_none parcel before bs p.nodes);
      }

  module _ (k : ℕ) (here : Place) (below : Below) (D : List Draft) (K : Kids parcel before levels R p bs own k here below D) (h : k < length R) (role : rules_heads.Role) (r : role ≡ get_or R k free_role) where
    pub kids_denied : (d : checks.Denial) → node_read before levels role (placed parcel here K.held) ≡ denied d → each_of (node_read before levels) R (placed parcel p bs) ≡ denied d
    kids_denied d e =
        left_denied (node_read before levels) R free_role _ k K.fs (placed parcel here K.held) d K.left h
        (ap (λ (x : rules_heads.Role). node_read before levels x (placed parcel here K.held)) (sym r) ∙ e)

    pub kids_more : (old E : List Draft) (rows : ℕ) (q : Place) (w : Below) → KidsInside parcel p here old D → length D ≡ length E → 256 ≤ length D
        → FoundAs parcel before here K.held levels role rows q E → FoundInside parcel here q D E → w ≡ below_more below k rows own
        → Kids parcel before levels R p bs own (k + 1) q w E
    kids_more old E rows q w I le big F J b =
        let x = F.f in
        let n : length (between p.nodes here.nodes D) ≡ here.nodes - p.nodes = length-between D p.nodes here.nodes (omega arith) in
        record {
          fs = K.fs ++ x ∷ [];
          held = F.after;
          left = left_more (node_read before levels) R free_role _ k K.fs (placed parcel here K.held) (placed parcel q F.after) x K.left h
              (ap (λ (y : rules_heads.Role). node_read before levels y (placed parcel here K.held)) (sym r) ∙ F.is);
          counted = omega (arith, K.counted, F.counted);
          counts = length_push K.fs x ∙ ap (λ (m : ℕ). m + 1) K.counts;
          belows = b ∙ ap (λ (y : Below). below_more y k rows own) K.belows
              ∙ ap (λ (m : ℕ). below_more (below_of own (map found_rows K.fs)) m rows own) (sym (length-map K.fs found_rows ∙ K.counts))
              ∙ ap (λ (m : ℕ). below_more (below_of own (map found_rows K.fs)) (length (map found_rows K.fs)) m own) F.same_rows
              ∙ below_push own (found_rows x) (map found_rows K.fs)
              ∙ ap (below_of own) (sym (map_push found_rows K.fs x));
          traced = traced_at parcel before bs F.after p.nodes (between p.nodes q.nodes E) (between p.nodes here.nodes D ++ between here.nodes q.nodes E)
              (flat_map (λ (y : Found). y.checks) (K.fs ++ x ∷ [])) (flat_map (λ (y : Found). y.checks) K.fs ++ x.checks)
              (preorders (columns_from (K.fs ++ x ∷ []))) (preorders (columns_from K.fs) ++ preorder x.found)
              (between_split E p.nodes here.nodes q.nodes I.some (omega arith) (omega arith)
              ∙ ap (λ (l : List Draft). l ++ between here.nodes q.nodes E) (between_kept E D p.nodes here.nodes J.kept))
              (checks_push K.fs x) (preorders_push K.fs x)
              (traced_append parcel before bs K.held F.after p.nodes here.nodes (between p.nodes here.nodes D) (between here.nodes q.nodes E) _ _ _ _ (omega arith) K.traced F.traced);
        }

pub inside_more : (parcel : List ℕ) (p here q : Place) (old D E : List Draft) → here.nodes ≤ length E → KidsInside parcel p here old D → FoundInside parcel here q D E → KidsInside parcel p q old E
inside_more parcel p here q old D E le I J =
    record {
      some = omega arith;
      few = J.few;
      kept = sym (take-take p.nodes here.nodes E I.some) ∙ ap (take p.nodes) J.kept ∙ take-take p.nodes here.nodes D I.some ∙ I.kept;
      good = subst (AllByRecursion (Drafted parcel))
          (sym (between_split E p.nodes here.nodes q.nodes I.some (omega arith) le ∙ ap (λ (l : List Draft). l ++ between here.nodes q.nodes E) (between_kept E D p.nodes here.nodes J.kept)))
          (All-append (Drafted parcel) (between p.nodes here.nodes D) (between here.nodes q.nodes E) I.good J.good);
    }

pub inside_start : (parcel : List ℕ) (p : Place) (D : List Draft) → p.nodes ≤ 256 → KidsInside parcel p p D D
inside_start parcel p D n =
    record { some = omega arith; few = n; kept = refl; good = subst (AllByRecursion (Drafted parcel)) (sym (between_none D p.nodes)) tt }

-- the node whole
module _ (parcel : List ℕ) (before levels : ℕ) (p q : Place) (bs : List (List ℕ)) (code : Code) (role : Role) (x : Opened) (o : OpenedAs parcel p bs levels (role_of role) x q) (n : q.nodes ≡ p.nodes + 1) where
  abbrev F : rules_heads.Head
  F = head_of parcel x.head

  abbrev J : Kind
  J = kind_of F.format

  abbrev S : rules_sent.Sent
  S = sent_of parcel x.parts o.ds

  pub node_denied : (d : checks.Denial) → each_of (node_read before (levels - 1)) (roles J F) (placed parcel q o.after) ≡ denied d → node_read before levels (role_of role) (placed parcel p bs) ≡ denied d
  node_denied d e = o.is before ∙ ap (λ (m : Outcome (List Found)). onward m (λ kids. give (found_node before (role_of role) J F S (q.nodes - 1) o.after kids))) e

  module _ (here : Place) (below : Below) (D : List Draft) (k : ℕ) (K : Kids parcel before (levels - 1) (roles J F) q o.after x.head.rows k here below D) (c : x.head.children ≡ length (roles J F)) (e : k ≡ x.head.children) (old : List Draft) (I : KidsInside parcel q here old D) (big : 256 ≤ length D) where
    abbrev me : Draft
    me = record { kind = code; role = role; head = x.head; parts = x.parts; below = below }

    abbrev whole : Found
    whole = found_node before (role_of role) J F S (q.nodes - 1) o.after K.fs

    number : q.nodes - 1 ≡ p.nodes
    number = omega arith

    reads : node_read before levels (role_of role) (placed parcel p bs) ≡ reached whole (placed parcel here K.held)
    reads =
        o.is before ∙ ap (λ (m : Outcome (List Found)). onward m (λ kids. give (found_node before (role_of role) J F S (q.nodes - 1) o.after kids)))
        (left_all (node_read before (levels - 1)) (roles J F) free_role _ k K.fs (placed parcel here K.held) K.left (omega (arith, c, e)))

    same_checks : rules.node_checks before (role_of role) J F S (node_from J F S) (columns_from K.fs) (q.nodes - 1) o.after ≡ checks_in parcel before p.nodes me o.ds o.after
    same_checks =
        ap (λ (b : Bool). (12, first_failing (λ (b : ℕ). ltb b before) (named_before before o.ds)) ∷ (4, unless (fills J F S && role_sound (role_of role) (node_from J F S) && b) (q.nodes - 1)) ∷ [])
        (sound_is J o.after (node_from J F S) K.fs ∙ ap (λ (b : Below). kind_sound_by o.after J (node_from J F S) b) (sym K.belows))
        ∙ ap (λ (m : ℕ). (12, first_failing (λ (b : ℕ). ltb b before) (named_before before o.ds)) ∷ (4, unless (fills J F S && role_sound (role_of role) (node_from J F S) && kind_sound_by o.after J (node_from J F S) below) m) ∷ []) number

    pub node_found : FoundAs parcel before p bs levels (role_of role) x.head.rows here (set D p.nodes me)
    unfolding preorder
    node_found =
        record {
          f = whole;
          after = K.held;
          is = reads;
          counted = omega (arith, K.counted, o.counted);
          same_rows = refl;
          traced = traced_at parcel before bs K.held p.nodes (between p.nodes here.nodes (set D p.nodes me)) (me ∷ between (p.nodes + 1) here.nodes D)
              whole.checks (checks_in parcel before p.nodes me o.ds o.after ++ flat_map (λ (y : Found). y.checks) K.fs)
              (preorder whole.found) ((node_in parcel me o.ds, x.head.children) ∷ preorders (columns_from K.fs))
              (between_set D p.nodes here.nodes me (omega arith) (omega arith))
              (ap (λ (l : List Check). l ++ flat_map (λ (y : Found). y.checks) K.fs) same_checks)
              (ap (λ (m : ℕ). (node_from J F S, m) ∷ preorders (columns_from K.fs)) (width_is K.fs ∙ K.counts ∙ e))
              (traced_node parcel before bs o.after K.held p.nodes me (between (p.nodes + 1) here.nodes D) o.ds (placed parcel q o.after) _ _
              (ap (λ (m : ℕ). each_of (λ (i : ℕ). rules_sent.data_buffer) (span 0 x.parts.lent.len) (placed parcel (record { at = x.parts.lent.start; nodes = m; brought = 0 }) bs)) (sym n) ∙ o.listed)
              refl
              (subst (λ (m : ℕ). Traced parcel before o.after m (between m here.nodes D) (flat_map (λ (y : Found). y.checks) K.fs) (preorders (columns_from K.fs)) K.held) n K.traced));
        }

pub child_is : (parcel : List ℕ) (h : Head) (f : Format) (k : ℕ) (r : Role) → format_meant f ≡ told (within parcel h.format)
    → ((said : ℕ) → k < length (roles (format_meant f).kind (head_with said h.rows)) → role_of r ≡ get_or (roles (format_meant f).kind (head_with said h.rows)) k free_role)
    → k < length (roles (kind_of (within parcel h.format)) (head_of parcel h)) → role_of r ≡ get_or (roles (kind_of (within parcel h.format)) (head_of parcel h)) k free_role
child_is parcel h f k r m g l =
    let e : roles (kind_of (within parcel h.format)) (head_of parcel h) ≡ roles (format_meant f).kind (head_with h.children h.rows) =
    roles_by (kind_of (within parcel h.format)) (head_of parcel h) ∙ ap (λ (x : Meaning). roles x.kind (head_with h.children h.rows)) (sym m) in
    g h.children (subst (λ (R : List rules_heads.Role). k < length R) e l) ∙ ap (λ (R : List rules_heads.Role). get_or R k free_role) (sym e)

pub found_inside : (parcel : List ℕ) (p q here : Place) (old D : List Draft) (d : Draft) → q.nodes ≡ p.nodes + 1 → p.nodes < length D → Drafted parcel d → KidsInside parcel q here old D → FoundInside parcel p here old (set D p.nodes d)
found_inside parcel p q here old D d n le g I =
    record {
      some = omega arith;
      few = I.few;
      kept = take-set D p.nodes d ∙ sym (take-take p.nodes q.nodes D (omega arith)) ∙ ap (take p.nodes) I.kept ∙ take-take p.nodes q.nodes old (omega arith);
      good = subst (AllByRecursion (Drafted parcel)) (sym (between_set D p.nodes here.nodes d (omega arith) le))
          (g, subst (λ (m : ℕ). AllByRecursion (Drafted parcel) (between m here.nodes D)) n I.good);
    }

pub drafted : (parcel : List ℕ) (p q : Place) (levels : ℕ) (code : Code) (role : Role) (x : Opened) (b : Below) → OpenedInside parcel p levels x q → OpenedAs parcel p [] levels (role_of role) x q
    → layout code ≡ (format_meant x.format).kind → offset_width code ≡ (format_meant x.format).offset → Drafted parcel (record { kind = code; role = role; head = x.head; parts = x.parts; below = b })
drafted parcel p q levels code role x b i s k o =
    record {
      parts = i.parts;
      head = i.head;
      name = i.name;
      rows = i.rows;
      lent = read_readable parcel x.parts.lent.len x.parts.lent.start q.nodes [] s.ds (placed parcel q s.after) i.parts.lent s.listed;
      layout = k ∙ ap (λ (m : Meaning). m.kind) i.format;
      offsets = o ∙ ap (λ (m : Meaning). m.offset) i.format;
    }
