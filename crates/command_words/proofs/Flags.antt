-- Flags, by the texts that clap has of them.
use Rattle.std.specs.Prelude.{◌≡◌, ℕ, Bool, true, false, List, Option, Some, None, codes, refl, unwrap_or}
use Rattle.std.specs.Option.{option_map_or}
use Rattle.std.specs.Str.{bytes_eq}
use Rattle.std.specs.Str.Parse.{ParsesBool}
use Rattle.std.specs.declared.str.ParseBoolError.{ParseBoolError}
use Rattle.std.proofs.Common.{ap, sym}
use Rattle.std.proofs.lemmas.Slice.Eq.{bytes_eq-Decides}
use Rattle.clap.specs.Matches.{ReadsOne}

-- a text that is another one is not equal to it
other : (text : List ℕ) (same : Bool) → bytes_eq text (codes "true") ≡ same → (text ≡ codes "true" → false ≡ true) → false ≡ same
other text true is not = not ((bytes_eq-Decides text (codes "true")).0 is)
other text false is not = refl

-- a flag is told where its text reads as true
pub is_true : (text : Option (List ℕ)) (read : Option Bool) → (text ≡ None → read ≡ None)
    → ((t : List ℕ) → text ≡ Some t → ReadsOne (ParsesBool {E = ParseBoolError}) t read)
    → unwrap_or read false ≡ option_map_or (λ t. bytes_eq t (codes "true")) text false
is_true None read none value = ap (λ r. unwrap_or r false) (none refl)
is_true (Some text) (Some true) none value = ap (λ t. bytes_eq t (codes "true")) (sym (value text refl))
is_true (Some text) (Some false) none value = ap (λ t. bytes_eq t (codes "true")) (sym (value text refl))
is_true (Some text) None none value = other text (bytes_eq text (codes "true")) refl (λ e. absurd ((value text refl).1.0 e))
