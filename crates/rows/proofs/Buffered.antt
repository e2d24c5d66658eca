-- The data buffers that lie in the byte pool, by their numbers.
use Rattle.std.proofs.Common.{◌≡◌, ℕ, ◌+◌, ◌<◌, ◌≤◌, List, [], length, get_or, sym, ap, ◌∙◌, subst, arith}
use lib.ListN.{length-map}
use Rattle.std.proofs.lemmas.List.{get_or-map}
use Rattle.std.proofs.ByRecursion.{All-get_or}
use Rattle.columns.specs.Says.{slice}
use Rattle.pools.specs.declared.records.Node.{Node as Entry}
use Rattle.pools.specs.Parts.{part_of, Inside}
use Rattle.pools.specs.Shows.{Shelved}
use Rattle.pools.specs.Store.{Store, Lies, no_part}
use Rattle.pools.proofs.Fronts.{segment_at, segment_part, segment_length}
use Rattle.rows.specs.Shelved.{buffer_number, buffer_part, buffered_part}

pub shelved_count : (P : Store) (shelved : List (List ℕ)) → Shelved P shelved → length P.buffers ≡ length shelved
shelved_count P shelved s = sym (length-map P.buffers (part_of P.bytes)) ∙ ap length s.are

pub shelved_lies : (P : Store) (shelved : List (List ℕ)) → Shelved P shelved → (b : ℕ) → b < length P.buffers → Lies P.bytes (get_or P.buffers b no_part) (get_or shelved b [])
shelved_lies P shelved s b h =
    record {
      within = All-get_or (Inside P.bytes) P.buffers b no_part h s.inside;
      is =
          sym (get_or-map (part_of P.bytes) P.buffers b no_part [] h) ∙ ap (λ (bs : List (List ℕ)). get_or bs b []) s.are;
    }

pub buffered_told : (P : Store) (r : Entry) (position offset len : ℕ) → buffer_number P r position < length P.buffers → (listed : List ℕ) (shelved : List (List ℕ)) →
    Lies P.lists r.buffers listed → Shelved P shelved → position < length listed → offset + len ≤ length (get_or shelved (get_or listed position 0) []) →
    Lies P.bytes (buffered_part P r position offset len) (slice (get_or shelved (get_or listed position 0) []) offset len)
buffered_told P r position offset len there listed shelved l s h within =
    let number : buffer_number P r position ≡ get_or listed position 0 = segment_at l position 0 (omega (arith, segment_length l)) in
    let lies = shelved_lies P shelved s (buffer_number P r position) there in
    let whole : Lies P.bytes (buffer_part P r position) (get_or shelved (get_or listed position 0) []) =
    subst (λ b. Lies P.bytes (buffer_part P r position) (get_or shelved b [])) number lies in
    segment_part whole offset len (omega (arith, segment_length whole))
