-- What the questions on ranges answer and compute.
use Rattle.std.specs.Prelude.{ℕ, Bool, List}
use Rattle.cedar_model.specs.Failures.{answers_bool}
use Rattle.cedar_ip.specs.Ranges.{ipv4, ipv6}
use Rattle.cedar_ip.specs.Keys.{is_key_of, is_in_range, is_loopback, is_multicast}
use Rattle.cedar_extension_values.specs.Functions.{Answering, of_key, of_keys, Computing, made_of_key, made_of_keys}
use Rattle.cedar_extension_values.specs.Functions.{gives_bool}
use Rattle.cedar_ip_functions.specs.Ranges.{ipaddr_name}

-- whether the range, by its key, is such
abbrev pub asked : (List ℕ → Bool) → Answering
asked such = of_key ipaddr_name (λ k. answers_bool (such k))

abbrev pub asked_made : (List ℕ → Bool) → Computing
asked_made such = made_of_key ipaddr_name (λ k. gives_bool (such k))

abbrev pub is_ipv4_answer : Answering
is_ipv4_answer = asked (is_key_of ipv4)

abbrev pub is_ipv4_made : Computing
is_ipv4_made = asked_made (is_key_of ipv4)

abbrev pub is_ipv6_answer : Answering
is_ipv6_answer = asked (is_key_of ipv6)

abbrev pub is_ipv6_made : Computing
is_ipv6_made = asked_made (is_key_of ipv6)

abbrev pub is_loopback_answer : Answering
is_loopback_answer = asked is_loopback

abbrev pub is_loopback_made : Computing
is_loopback_made = asked_made is_loopback

abbrev pub is_multicast_answer : Answering
is_multicast_answer = asked is_multicast

abbrev pub is_multicast_made : Computing
is_multicast_made = asked_made is_multicast

-- whether the first range is in the second
abbrev pub is_in_range_answer : Answering
is_in_range_answer = of_keys ipaddr_name ipaddr_name (λ k l. answers_bool (is_in_range k l))

abbrev pub is_in_range_made : Computing
is_in_range_made = made_of_keys ipaddr_name ipaddr_name (λ k l. gives_bool (is_in_range k l))
