-- Values that a text made, and datetimes that are written from 1970 on, are faithful: the law of calls, inside out.
use Rattle.std.specs.Prelude.{◌≡◌, ℕ, List, [], ◌∷◌, codes}
use Rattle.cedar_model.specs.Terms.{Text, text_literal}
use Rattle.cedar_model.specs.Values.{Represented, plain_represented}
use Rattle.cedar_extension_values.specs.Written.{constructed, epoch}
use Rattle.cedar_extension_values.specs.Faithful.{CallsAreFaithful, ConstructedAreFaithful, OffsetsAreFaithful}

pub constructed_are_faithful : CallsAreFaithful → ConstructedAreFaithful
constructed_are_faithful calls X ans f text t k there makes =
    calls X ans f (plain_represented (text_literal text) ∷ []) t k (tt, tt) there.takes there.never_asks makes

pub offsets_are_faithful : CallsAreFaithful → OffsetsAreFaithful
offsets_are_faithful calls X ans text k d e datetimes durations offsets first second makes =
    calls X ans (codes "offset")
    (constructed (codes "datetime") e (codes "datetime") epoch ∷ constructed (codes "duration") d (codes "duration") text ∷ [])
    (codes "datetime") k (
      constructed_are_faithful calls X ans (codes "datetime") epoch (codes "datetime") e datetimes first,
      (constructed_are_faithful calls X ans (codes "duration") text (codes "duration") d durations second, tt),
    )
    offsets.takes offsets.never_asks makes
