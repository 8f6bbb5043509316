-- Texts of a program are in UTF-8.
use Rattle.std.specs.Rc.{rc_str_bytes}
use Rattle.std.specs.Str.{is_utf8}
use Rattle.std.specs.declared.alloc.Global.{Global}
use Rattle.std.specs.declared.rc.RcStr.{RcStr}
use Rattle.std.proofs.Common.{◌≡◌, true}
use Rattle.std.proofs.lemmas.Str.{is_utf8-from_IsUtf8, IsUtf8-string_bytes}

pub text_is_utf8 : (t : RcStr Global) → is_utf8 (rc_str_bytes t) ≡ true
text_is_utf8 t = is_utf8-from_IsUtf8 (rc_str_bytes t) (IsUtf8-string_bytes t.text.value)
