-- What the constructor `ip` answers and computes.
use Rattle.std.specs.Prelude.{codes}
use Rattle.cedar_model.specs.Terms.{Text}
use Rattle.cedar_model.specs.Failures.{function_has_failed}
use Rattle.cedar_ip.specs.Keys.{key_of}
use Rattle.cedar_extension_values.specs.Functions.{Answering, of_constructor, Computing, made_by_constructor}

-- the name of the extension and of its type
abbrev pub ipaddr_name : Text
ipaddr_name = codes "ipaddr"

-- and of its constructor
abbrev pub ip_name : Text
ip_name = codes "ip"

abbrev pub not_a_range : Text
not_a_range = codes "not an IPv4 or IPv6 address, alone or with the length of a prefix"

-- the range that the text writes, written as the call on that text
abbrev pub ip_answer : Answering
ip_answer = of_constructor ipaddr_name ip_name (function_has_failed ipaddr_name not_a_range) key_of

abbrev pub ip_made : Computing
ip_made = made_by_constructor ipaddr_name key_of
