-- What was printed after something else was said or printed.
use Rattle.std.specs.Prelude.{refl, ℕ, List, [], ◌++◌, Option}
use Rattle.std.specs.Io.KnownBytes.{Appends}
use Rattle.std.proofs.Common.{◌∙◌, sym, subst}
use Rattle.std.proofs.KnownBytes.{Appends-nil, Appends-trans}
use Rattle.script_io.specs.Fused.{written}
use Rattle.replies.specs.declared.reply.Reply.{Reply}
use Rattle.command_files.specs.Reporting.{output_of, reply_on_output, OnlySays, Prints}
use Rattle.command_files.specs.declared.reporter.Reporter.{Reporter}

-- nothing was said
pub says_nothing : {W E : Type 0} (reporter : Reporter W E) → OnlySays reporter reporter
says_nothing reporter = record { output = refl; piped = refl }

-- something was said, and then more
pub says_more : {W E : Type 0} (old mid new : Reporter W E) → OnlySays old mid → OnlySays mid new → OnlySays old new
says_more old mid new first second = record { output = second.output ∙ first.output; piped = second.piped ∙ first.piped }

-- something was said, and then some bytes were printed
pub prints_behind : {W E : Type 0} (contents : W → Option (List ℕ)) (old mid new : Reporter W E) (bytes : List ℕ) → OnlySays old mid
    → Prints contents mid new bytes → Prints contents old new bytes
prints_behind contents old mid new bytes says prints = record {
  output = subst (λ w. Appends (written contents w) (output_of contents new) bytes) says.output prints.output;
  piped = prints.piped ∙ says.piped;
}

-- some bytes were printed, and then something was said
pub prints_before : {W E : Type 0} (contents : W → Option (List ℕ)) (old mid new : Reporter W E) (bytes : List ℕ)
    → Prints contents old mid bytes → OnlySays mid new → Prints contents old new bytes
prints_before contents old mid new bytes prints says = record {
  output = subst (λ w. Appends (output_of contents old) (written contents w) bytes) (sym says.output) prints.output;
  piped = says.piped ∙ prints.piped;
}

-- some bytes were printed, and then more
pub prints_more : {W E : Type 0} (contents : W → Option (List ℕ)) (old mid new : Reporter W E) (bytes more : List ℕ)
    → Prints contents old mid bytes → Prints contents mid new more → Prints contents old new (bytes ++ more)
prints_more contents old mid new bytes more first second = record {
  output = Appends-trans _ _ _ bytes more first.output second.output;
  piped = second.piped ∙ first.piped;
}

-- something was said, and then a reply was written
pub replied_behind : {W E : Type 0} (contents : W → Option (List ℕ)) (old mid new : Reporter W E) (reply : Reply) → OnlySays old mid
    → Prints contents mid new (reply_on_output mid.is_piped reply) → Prints contents old new (reply_on_output old.is_piped reply)
replied_behind contents old mid new reply says prints =
    subst (λ p. Prints contents old new (reply_on_output p reply)) says.piped
    (prints_behind contents old mid new (reply_on_output mid.is_piped reply) says prints)

-- nothing was printed
pub prints_none : {W E : Type 0} (contents : W → Option (List ℕ)) (old new : Reporter W E) → OnlySays old new → Prints contents old new []
prints_none contents old new says = record {
  output = subst (λ w. Appends (output_of contents old) (written contents w) []) (sym says.output) (Appends-nil _);
  piped = says.piped;
}
