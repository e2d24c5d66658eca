-- The made column is sound, within the limits and of its sources' type, depth and widths.
use Rattle.std.proofs.Common.{ℕ, ◌<◌, ◌≤◌, false, List, length, sym, subst, inl, inr}
use Rattle.std.proofs.lemmas.List.{get_or_past}
use Rattle.std.proofs.lemmas.Bool.{cases_lt}
use Rattle.columns.specs.Column.{Column, nothing, at}
use Rattle.columns.specs.Interleave.{interleave}
use Rattle.columns.specs.Types.{SameType}
use Rattle.columns.specs.Sound.{Sound, ListsShelved}
use Rattle.columns.specs.Limits.{most_rows}
use Rattle.columns.specs.Widths.{WithinWidths}
use Rattle.columns.specs.Pools.{making_checks}
use Rattle.columns.specs.Promises.{MadeColumnIsSound}
use Rattle.columns.proofs.Made.{made_sound, type_made, rows_made}
use Rattle.columns.proofs.Checked.{passed}
use Rattle.columns.proofs.Limits.{making_limited, same_depth, same_count}
use Rattle.columns.proofs.Widths.{within_nothing, made_within}
use Rattle.columns.proofs.Listed.{lists_nothing, made_lists}

-- past the sources there is nothing
past_sources : (P : Column → Type 0) → P nothing → (S : List Column) → ((s : ℕ) → s < length S → P (at S s)) → (s : ℕ) → P (at S s)
past_sources P none_there S F s = elim (cases_lt s (length S)) [ inl l ↦ F s l | inr l ↦ subst P (sym (get_or_past S s nothing l)) none_there ]

pub made_column_is_sound : MadeColumnIsSound
made_column_is_sound D S ps some_source A =
    let own : Sound D (at S 0) = A.sound 0 some_source in
    let made : Sound D (interleave S ps) = made_sound D false (at S 0) S ps A own in
    let ty : SameType (interleave S ps) (at S 0) = type_made D false (at S 0) S ps own in
    record {
      sound = made;
      lists_shelved = λ many F. made_lists many D false (at S 0) S ps A own (past_sources (ListsShelved many) (lists_nothing many) S F);
      same_type = ty;
      same_depth = same_depth (interleave S ps) (at S 0) ty;
      same_count = same_count (interleave S ps) (at S 0) ty;
      within_limits = λ lengths marks few lim none_fails.
          let a = same_depth (interleave S ps) (at S 0) ty in
          let b = same_count (interleave S ps) (at S 0) ty in
          record {
            nodes_limited = making_limited D lengths marks (interleave S ps) (subst (λ m. m ≤ most_rows) (sym (rows_made false (at S 0) S ps)) few) made (passed (making_checks lengths marks (interleave S ps)) none_fails);
            few_nodes = subst (λ m. m ≤ 256) (sym b) lim.few_nodes;
            few_levels = subst (λ m. m ≤ 8) (sym a) lim.few_levels;
          };
      within_widths = λ lim F. made_within D false (at S 0) S ps A own (F 0 some_source) (past_sources WithinWidths within_nothing S F) lim.nodes_limited;
    }
