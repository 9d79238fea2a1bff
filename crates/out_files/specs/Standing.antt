-- Which files in the place of OUT stay. All of this is our own.
use Rattle.std.specs.Prelude.{Bool, true, false}
use Rattle.out_files.specs.declared.out.Fate.{Fate}
use Rattle.out_files.specs.declared.out.Fate.TheVariants as fate
use Rattle.out_files.specs.declared.out.FrontKind.{FrontKind}
use Rattle.out_files.specs.declared.out.FrontKind.TheVariants as front

-- a file that has bytes is foreign, unless it begins as a summary that is read
abbrev pub is_foreign : FrontKind → Bool
is_foreign front.Empty = false
is_foreign front.Summary = false
is_foreign front.OtherVersion = true
is_foreign front.Batch = true
is_foreign front.Other = true

-- a command goes no further where the file stays: it was told to keep it, or it is no summary; nor where OUT is a terminal
abbrev pub stops : Fate → Bool
stops fate.Kept = true
stops fate.Replaced = false
stops (fate.Spared kind) = true
stops fate.Forced = false
stops fate.Shown = true
