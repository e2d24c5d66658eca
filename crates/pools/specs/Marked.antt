-- The marks and lengths of pools 1 to 10.
use Rattle.std.specs.Prelude.{ℕ, [], ◌∷◌, ◌++◌, length}
use Rattle.columns.specs.Pools as theory
use Rattle.pools.specs.declared.pool.Pool.{Pool}
use Rattle.pools.specs.declared.pools.Pools.{Pools}
use Rattle.pools.specs.declared.pools.Marks.{Marks}
use Rattle.pools.specs.declared.entries.Entries.{Entries}

abbrev pub marks_of : Pools → Marks
marks_of p =
    record { columns = p.columns.mark; nodes = p.nodes.mark; bytes = p.bytes.mark; shorts = p.shorts.mark; words = p.words.mark; longs = p.longs.mark; offsets = p.offsets.mark; views = p.views.mark; lists = p.lists.mark; buffers = p.buffers.mark }

abbrev pub lengths_of : Pools → Marks
lengths_of p =
    record { columns = length p.columns.lent.now; nodes = length p.nodes.lent.now; bytes = length p.bytes.lent.now; shorts = length p.shorts.lent.now; words = length p.words.lent.now; longs = length p.longs.lent.now; offsets = length p.offsets.lent.now; views = length p.views.lent.now; lists = length p.lists.lent.now; buffers = length p.buffers.lent.now }

-- the same pool with another mark
abbrev pub at_mark : {X : Type 0} → ℕ → Pool X → Pool X
at_mark m p = record { lent = p.lent; mark = m }

abbrev pub marked : Marks → Pools → Pools
marked m p =
    record { columns = at_mark m.columns p.columns; nodes = at_mark m.nodes p.nodes; bytes = at_mark m.bytes p.bytes; shorts = at_mark m.shorts p.shorts; words = at_mark m.words p.words; longs = at_mark m.longs p.longs; offsets = at_mark m.offsets p.offsets; views = at_mark m.views p.views; lists = at_mark m.lists p.lists; buffers = at_mark m.buffers p.buffers }

-- on a fresh shelf
abbrev pub no_marks : Marks
no_marks = record { columns = 0; nodes = 0; bytes = 0; shorts = 0; words = 0; longs = 0; offsets = 0; views = 0; lists = 0; buffers = 0 }

-- as the numbers of pools 1 to 10, in that order
abbrev pub entries : Marks → theory.Entries
entries m = m.columns ∷ m.nodes ∷ m.bytes ∷ m.shorts ∷ m.words ∷ m.longs ∷ m.offsets ∷ m.views ∷ m.lists ∷ m.buffers ∷ []

-- as the numbers of pools 1 to 11
abbrev pub listed : Entries → theory.Entries
listed x = entries x.pools ++ x.slip ∷ []
