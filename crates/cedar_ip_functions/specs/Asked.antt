-- What a question asks of a key.
use Rattle.std.specs.Prelude.{ℕ, Bool, List}
use Rattle.cedar_ip.specs.Ranges.{ipv4, ipv6}
use Rattle.cedar_ip.specs.Keys.{is_key_of, is_loopback, is_multicast}
use Rattle.cedar_ip_functions.specs.declared.questions.Question.{Question}
use Rattle.cedar_ip_functions.specs.declared.questions.Question.TheVariants as questions

abbrev pub such : Question → List ℕ → Bool
such questions.IsIpv4 k = is_key_of ipv4 k
such questions.IsIpv6 k = is_key_of ipv6 k
such questions.IsLoopback k = is_loopback k
such questions.IsMulticast k = is_multicast k
