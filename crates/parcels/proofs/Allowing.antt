use Rattle.std.proofs.Common.{◌≡◌, ℕ, zero, suc, [], ◌∷◌, get_or, replicate, refl}
use Rattle.columns.specs.Heads.{roles, free}
use Rattle.formats.specs.Spelled.{format_meant}
use Rattle.parcels.specs.Roles.{head_with}
use Rattle.formats.specs.declared.format.Format.{Format}
use Rattle.formats.specs.declared.format.Format.TheVariants.{Primitive, Timestamp, Boolean, Text, View, Map, Struct, RunEnds, FixedList}
use Rattle.formats.specs.declared.format.Format.TheVariants.{List as ListOf}

one_free : (k : ℕ) → free ≡ get_or (free ∷ []) k free
one_free zero = refl
one_free (suc k) = refl

all_free : (n k : ℕ) → free ≡ get_or (replicate n free) k free
all_free zero k = refl
all_free (suc n) zero = refl
all_free (suc n) (suc k) = all_free n k

pub rest_free : (f : Format) (said rows k : ℕ) → (f ≡ Map → ⊥) → (f ≡ RunEnds → ⊥) → free ≡ get_or (roles (format_meant f).kind (head_with said rows)) k free
rest_free (Primitive a b) said rows k m r = refl
rest_free (Timestamp u z) said rows k m r = refl
rest_free Boolean said rows k m r = refl
rest_free (Text w) said rows k m r = refl
rest_free View said rows k m r = refl
rest_free (ListOf w) said rows k m r = one_free k
rest_free Map said rows k m r = absurd (m refl)
rest_free Struct said rows k m r = all_free said k
rest_free RunEnds said rows k m r = absurd (r refl)
rest_free (FixedList n) said rows k m r = one_free k
