-- What becomes of a file in the place of OUT. All of this is our own.
use Rattle.std.specs.Prelude.{◌≡◌, ◌==◌, ℕ, Bool, codes, true, false, Option, Some, None, Result, Ok, Err, IsErr, if◌then◌else◌}
use Rattle.out_files.specs.declared.occupant.Occupant.{Occupant}
use Rattle.out_files.specs.declared.occupant.Occupant.TheVariants.{Another, Listed}
use Rattle.command_words.specs.Told.{is_flag_told}
use Rattle.clap.specs.declared.parser.matches.ArgMatches.{ArgMatches}
use Rattle.out_files.specs.Standing.{is_foreign, stops}
use Rattle.out_files.specs.declared.out.Fate.{Fate}
use Rattle.out_files.specs.declared.out.Fate.TheVariants.{Replaced, Spared, Forced}
use Rattle.out_files.specs.declared.out.FrontKind.{FrontKind}
use Rattle.out_files.specs.declared.out.Standing.{Standing}

-- one that is no foreign file is replaced, which is told where it is none of those that are read
abbrev pub fate_where_read : (listed : Option ℕ) → Option Fate
fate_where_read None = Some Replaced
fate_where_read (Some place) = None

-- a foreign one that is the first of those that are read is no summary, which is found out when it is read; any other is replaced by force
abbrev pub fate_by_force : (listed : Option ℕ) → Option Fate
fate_by_force None = Some Forced
fate_by_force (Some place) = if place == 0 then None else Some Forced

-- by what its first bytes tell: a foreign one stays unless the command is forced
abbrev pub fate_by : FrontKind → (is_forced : Bool) → (listed : Option ℕ) → Option Fate
fate_by kind is_forced listed =
    if is_foreign kind then (if is_forced then fate_by_force listed else Some (Spared kind)) else fate_where_read listed

-- by its first bytes, where they were read: where they were not, a command that is not forced stops
abbrev pub IsFateBy : {T E : Type 0} → Result FrontKind E → (is_forced : Bool) → (listed : Option ℕ) → Result (Option Fate) T → Type 0
IsFateBy (Ok kind) is_forced listed result = result ≡ Ok (fate_by kind is_forced listed)
IsFateBy (Err error) true listed result = result ≡ Ok (fate_where_read listed)
IsFateBy (Err error) false listed result = IsErr result

-- there is a file in the place of OUT whose first bytes decide: one that is read, or another that is not kept whatever it is
abbrev pub IsFile : Occupant → (keeps : Bool) → Type 0
IsFile Another false = Unit {0}
IsFile (Listed place) keeps = Unit {0}
IsFile occupant keeps = ⊥

-- a command line does not force its command
abbrev pub IsUnforced : ArgMatches → Type 0
IsUnforced matches = is_flag_told matches (codes "force") ≡ false

-- whether what was found in the place of OUT stops a command
abbrev pub is_stopped : {E : Type 0} → Result (Option Standing) E → Bool
is_stopped (Ok (Some standing)) = stops standing.fate
is_stopped looked = false

-- a command line tells to keep a file in the place of OUT, if it is no summary or batch file that the command reads
abbrev pub KeepsFiles : ArgMatches → Type 0
KeepsFiles matches = is_flag_told matches (codes "no-clobber") ≡ true
