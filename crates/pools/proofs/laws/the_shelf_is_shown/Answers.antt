use Rattle.pools.proofs.Showing.{shows_fresh, shows_added, column_on}
use Rattle.pools.proofs.laws.the_shelf_is_shown.Goals as goal

pub returns : goal.returns
returns c =
    record {
      fresh_shown = shows_fresh;
      added_shown = λ P Q s d new taken a h. shows_added a h;
      others_stay = λ P Q s j e h l. column_on e h.columns j l;
    }
