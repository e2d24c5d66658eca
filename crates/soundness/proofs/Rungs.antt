use Rattle.std.proofs.Common.{◌≡◌, ℕ, ◌+◌, ◌≤◌, Bool, true, false, List, [], ◌∷◌, ◌++◌, length, drop, Some, None, sym, refl, ap, ◌∙◌, arith}
use mathlib.Core.Option as math
use Rattle.std.proofs.lemmas.List.{append_assoc, append-nil, drop_all}
use Rattle.columns.specs.Checks.{first_denial, denied_or, unless, denial}
use Rattle.columns.specs.Checks as checks
use Rattle.columns.specs.Reading.{Outcome}
use Rattle.columns.specs.Sent.{Data}
use Rattle.formats.specs.Spelled.{lifted}
use Rattle.formats.specs.declared.kind.Kind.TheVariants.{Primitive}
use Rattle.formats.specs.declared.format.Width.TheVariants.{One}
use Rattle.parcels.specs.declared.draft.Draft.{Draft}
use Rattle.parcels.specs.declared.draft.Role.TheVariants.{Ends}
use Rattle.parcels.specs.Lent.{brought_from}
use Rattle.parcels.specs.Drafts.{Drafted, checks_of, lent_of, held_after, given_in, buffers_in, checks_in}
use Rattle.parcels.proofs.Lents.{reads_flat}
use Rattle.soundness.specs.Ladder.{data_of, held_by, unshelved_in, sound_in}

pub unlifted_some : (o : math.Option ℕ) (x : ℕ) → lifted o ≡ Some x → o ≡ math.some x
unlifted_some math.none x e = let z : ◌≡◌ {A = ℕ} 0 1 = cc in absurd (omega arith)
unlifted_some (math.some y) x e = let z : y ≡ x = cc in ap math.some z

pub unlifted_none : (o : math.Option ℕ) → lifted o ≡ None → o ≡ math.none
unlifted_none math.none e = refl
unlifted_none (math.some y) e = let z : ◌≡◌ {A = ℕ} 0 1 = cc in absurd (omega arith)

module _ (parcel : List ℕ) (bs : List (List ℕ)) (i : ℕ) (d : Draft) (g : Drafted parcel d) where
  pub lent_flat : lent_of parcel bs i d ≡ data_of parcel bs d
  lent_flat = ap (λ (o : Outcome (List Data)). given_in [] o) (reads_flat parcel d.parts.lent.len 0 d.parts.lent.start (i + 1) bs g.lent)

  pub held_flat : held_after parcel bs i d ≡ held_by parcel bs d
  held_flat = ap (λ (o : Outcome (List Data)). buffers_in bs o) (reads_flat parcel d.parts.lent.len 0 d.parts.lent.start (i + 1) bs g.lent)

module _ (parcel : List ℕ) (before : ℕ) (shelved : List (List ℕ)) (D : List Draft) where
  -- the first i drafts pass, and what is left gives the whole
  pub record Rung (i : ℕ) : Type 0 where
    pub more : List (List ℕ)
    pub same : first_denial (checks_of parcel before shelved 0 D) ≡ first_denial (checks_of parcel before (shelved ++ more) i (drop i D))

  pub rung_start : Rung 0
  rung_start = record { more = []; same = ap (λ (bs : List (List ℕ)). first_denial (checks_of parcel before bs 0 D)) (sym (append-nil shelved)) }

  pub rung_all : (i : ℕ) → Rung i → length D ≤ i → first_denial (checks_of parcel before shelved 0 D) ≡ math.none
  unfolding checks_of
  rung_all i g h = g.same ∙ ap (λ (l : List Draft). first_denial (checks_of parcel before (shelved ++ g.more) i l)) (drop_all i D h)

  module _ (i : ℕ) (g : Rung i) (d : Draft) (k : Drafted parcel d) (ds : drop i D ≡ d ∷ drop (i + 1) D) where
    abbrev bs : List (List ℕ)
    bs = shelved ++ g.more

    abbrev ladder : math.Option ℕ → Bool → List (List ℕ) → math.Option checks.Denial
    ladder o b held = denied_or 12 o (denied_or 4 (unless b i) (first_denial (checks_of parcel before held (i + 1) (drop (i + 1) D))))

    abbrev by : List Data → List (List ℕ) → math.Option checks.Denial
    by l held = first_denial (checks_in parcel before i d l held ++ checks_of parcel before held (i + 1) (drop (i + 1) D))

    opens : first_denial (checks_of parcel before shelved 0 D) ≡ ladder (unshelved_in before (data_of parcel bs d)) (sound_in parcel bs d) (held_by parcel bs d)
    unfolding checks_of
    opens =
        g.same ∙ ap (λ (l : List Draft). first_denial (checks_of parcel before bs i l)) ds
        ∙ ap (λ (l : List Data). by l (held_after parcel bs i d)) (lent_flat parcel bs i d k)
        ∙ ap (by (data_of parcel bs d)) (held_flat parcel bs i d k)

    pub rung_missing : (b : ℕ) → lifted (unshelved_in before (data_of parcel bs d)) ≡ Some b → first_denial (checks_of parcel before shelved 0 D) ≡ math.some (denial 12 b)
    rung_missing b e = opens ∙ ap (λ (o : math.Option ℕ). ladder o (sound_in parcel bs d) (held_by parcel bs d)) (unlifted_some (unshelved_in before (data_of parcel bs d)) b e)

    module _ (e : lifted (unshelved_in before (data_of parcel bs d)) ≡ None) (v : Bool) (t : v ≡ sound_in parcel bs d) where
      passes : first_denial (checks_of parcel before shelved 0 D) ≡ ladder math.none v (held_by parcel bs d)
      passes =
          opens ∙ ap (λ (o : math.Option ℕ). ladder o (sound_in parcel bs d) (held_by parcel bs d)) (unlifted_none (unshelved_in before (data_of parcel bs d)) e)
          ∙ ap (λ (b : Bool). ladder math.none b (held_by parcel bs d)) (sym t)

      pub rung_unsound : v ≡ false → first_denial (checks_of parcel before shelved 0 D) ≡ math.some (denial 4 i)
      rung_unsound f = passes ∙ ap (λ (b : Bool). ladder math.none b (held_by parcel bs d)) f

      pub rung_more : v ≡ true → Rung (i + 1)
      rung_more f =
          let b : List (List ℕ) = brought_from parcel d.parts.lent.start d.parts.lent.len in
          record {
            more = g.more ++ b;
            same = passes ∙ ap (λ (b : Bool). ladder math.none b (held_by parcel bs d)) f
                ∙ ap (λ (l : List (List ℕ)). first_denial (checks_of parcel before l (i + 1) (drop (i + 1) D))) (append_assoc shelved g.more b);
          }

-- what a read of the drafts past their end would give
abbrev pub blank : Draft
blank =
    record {
      kind = Primitive One;
      role = Ends 0;
      head = record { masked = false; format = record { start = 0; len = 0 }; label = 0; children = 0; rows = 0 };
      parts = record { mask = None; body = record { start = 0; len = 0 }; text = record { start = 0; len = 0 }; lent = record { start = 0; len = 0 } };
      below = record { first = 0; second = 0; alike = false };
    }
