-- The text in which places are looked up.
use Rattle.std.specs.Prelude.{ℕ, List}
use Rattle.cedar_places.specs.declared.places.Places.{Places}

abbrev pub text_in : Places → List ℕ
text_in places = places.text.now
