-- The child counts of drafts.
use Rattle.std.specs.Prelude.{ℕ}
use Rattle.parcels.specs.declared.draft.Draft.{Draft}

abbrev pub children_in : Draft → ℕ
children_in d = d.head.children
