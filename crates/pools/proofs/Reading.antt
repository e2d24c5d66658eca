-- What is read at a row of a stored node is what the node has there.
use Rattle.std.proofs.Common.{◌≡◌, ℕ, ◌+◌, ◌/◌, ◌<◌, ◌≤◌, Bool, true, false, eqb, List, ◌++◌, length, get_or, Some, None, Option as Maybe, sym, refl, ap, ◌∙◌, subst, arith, length-append}
use mathlib.Core.Option.{Option, some, none}
use Rattle.std.proofs.lemmas.List.{get_or_append_left, get_or_default}
use Rattle.columns.specs.Column.{bytes_for, Column, Columns, column, end, ◌&◌, node, children, width, first, rest}
use Rattle.columns.specs.Limits.{node_count}
use Rattle.columns.specs.Says.{slice}
use Rattle.columns.specs.Masks.{mask_valid}
use Rattle.columns.specs.Bytes.{digit}
use Rattle.columns.proofs.Bits.{bits_read_back}
use Rattle.pools.specs.Store.{Store, node_entry}
use Rattle.pools.specs.Held.{BitsLie, MaskLies, Held}
use Rattle.pools.specs.Stored.{Stored, EachStored}
use Rattle.pools.specs.Bits.{bit_of, mask_bit}
use Rattle.pools.proofs.Fronts.{segment_length}

-- a digit's test is its bit
digit_bit : (b : Bool) → eqb (digit b) 1 ≡ b
digit_bit true = refl
digit_bit false = refl

-- A bit of a row, and its byte.
pub byte_in : (place row rows n : ℕ) → place + bytes_for rows ≤ n → row < rows → place + row / 8 < n
byte_in place row rows n h l = omega arith

-- the bytes are those of all the bits, the spare ones too
packed_length : {bytes : List ℕ} {place rows : ℕ} {bits spare : List Bool} → BitsLie bytes place rows bits spare → bytes_for (length (bits ++ spare)) ≡ bytes_for rows
packed_length {bytes} {place} {rows} {bits} {spare} h = sym (bits_read_back.byte_count (bits ++ spare)) ∙ segment_length h.lies

pub bit_read : {bytes : List ℕ} {place rows : ℕ} {bits spare : List Bool} → BitsLie bytes place rows bits spare → (row : ℕ) → row < rows → bit_of bytes place row ≡ get_or bits row false
bit_read {bytes} {place} {rows} {bits} {spare} h row l =
    let inside : row < length bits = (let e = h.fills in omega arith) in
    let all : row < length (bits ++ spare) = (let e = length-append bits spare in omega arith) in
    ap (λ d. eqb d 1) (bits_read_back.at_place bytes place (bits ++ spare) row (ap (slice bytes place) (packed_length h) ∙ h.lies.is) all)
    ∙ digit_bit (get_or (bits ++ spare) row false) ∙ get_or_append_left bits spare false row inside

pub valid_read : (bytes : List ℕ) (m : Maybe ℕ) (rows : ℕ) (o : Option (List Bool)) (spare : List Bool) → MaskLies bytes m rows o spare → (row : ℕ) → row < rows → mask_bit bytes m row ≡ mask_valid o row
valid_read bytes None rows none spare h row l = refl
valid_read bytes None rows (some bits) spare h row l = absurd h
valid_read bytes (Some place) rows none spare h row l = absurd h
valid_read bytes (Some place) rows (some bits) spare h row l = bit_read h row l ∙ get_or_default bits row false true (let e = h.fills in omega arith)

-- The node, and its children.
pub stored_node : (P : Store) (i : ℕ) (c : Column) → Stored P i c → (i < length P.nodes) × Held P (node_entry P i) (node c) (width (children c)) (node_count c)
unfolding Stored
stored_node P i (column n cs) h = (h.0, h.1)

pub stored_children : (P : Store) (i : ℕ) (c : Column) → Stored P i c → EachStored P (i + 1) (children c)
unfolding Stored
stored_children P i (column n cs) h = h.2

pub stored_span : (P : Store) (i : ℕ) (c : Column) → Stored P i c → (node_entry P i).span ≡ node_count c
stored_span P i c h = (stored_node P i c h).1.is_span

pub first_stored : (P : Store) (i : ℕ) (cs : Columns) → 0 < width cs → EachStored P i cs → Stored P i (first cs)
unfolding EachStored
first_stored P i end l h = absurd (omega arith)
first_stored P i (c & cs) l h = h.0

pub rest_stored : (P : Store) (i : ℕ) (cs : Columns) → 0 < width cs → EachStored P i cs → EachStored P (i + (node_entry P i).span) (rest cs)
unfolding EachStored
rest_stored P i end l h = absurd (omega arith)
rest_stored P i (c & cs) l h = subst (λ k. EachStored P (i + k) cs) (sym (stored_span P i c h.0)) h.1
