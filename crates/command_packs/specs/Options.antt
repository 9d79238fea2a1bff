-- The options of `pack`. All of this is our own.
use Rattle.std.specs.Prelude.{◌≡◌, ◌⊎◌, ◌==◌, ◌&&◌, ◌||◌, not, Bool, ℕ, List, [], ◌∷◌, Option, Some, None, unwrap_or, codes, if◌then◌else◌}
use Rattle.std.specs.Char.{is_ascii_punctuation}
use Rattle.std.specs.Str.{bytes_eq}
use Rattle.clap.specs.Matches.{found_of, first_value}
use Rattle.clap.specs.declared.parser.matches.ArgMatches.{ArgMatches}
use Rattle.batch_reader.specs.Head.{ReadsOrigin, ReadsBatchNumber}
use Rattle.plain_batches.specs.declared.layout.Layout.{Layout}
use Rattle.command_words.specs.Told.{is_flag_told, value_told}
use Rattle.command_packs.specs.declared.options.Words.{Words}

-- a byte that may stand between fields: a tab (9), or one of ASCII that is neither in a name or a number nor a quote (34)
abbrev pub is_delimiter : ℕ → Bool
is_delimiter byte = byte == 9 || (is_ascii_punctuation byte && not (byte == 34))

abbrev pub delimiter_of_one : List ℕ → Option ℕ
delimiter_of_one (byte ∷ []) = if is_delimiter byte then Some byte else None
delimiter_of_one text = None

-- the delimiter that a text tells: a tab by its name, or as \t, or else a byte by itself
abbrev pub delimiter_told : List ℕ → Option ℕ
delimiter_told text = if bytes_eq text (codes "tab") || bytes_eq text (92 ∷ 116 ∷ []) then Some 9 else delimiter_of_one text

-- a plain CSV is written as these words tell
pub record IsLayoutOf (words : Words) (layout : Layout) : Type 0 where
  pub delimiter : delimiter_told words.delimiter.now ≡ Some layout.delimiter
  pub null : layout.null.now ≡ words.null.now
  pub header : layout.has_header ≡ words.has_header
  pub skips : layout.skips_columns ≡ words.skips_columns

-- the batch is the one that these words tell
pub record IsHeadOf (words : Words) (origin number : ℕ) : Type 0 where
  pub origin_is : ReadsOrigin words.origin.now origin
  pub number_is : ReadsBatchNumber words.number.now number

-- the words tell no batch, or no delimiter
abbrev pub AreUnread : Words → Type 0
AreUnread words =
    ((o n : ℕ) → ReadsOrigin words.origin.now o → ReadsBatchNumber words.number.now n → ⊥) ⊎ (delimiter_told words.delimiter.now ≡ None)

-- these are the words of a command line. The plain CSV is standard input where none is told
pub record AreWords (matches : ArgMatches) (words : Words) : Type 0 where
  pub summary : words.summary.now ≡ value_told matches (codes "IN")
  pub csv : words.csv.now ≡ unwrap_or (first_value (found_of matches) (codes "CSV")) (codes "-")
  pub origin : words.origin.now ≡ value_told matches (codes "origin")
  pub number : words.number.now ≡ value_told matches (codes "number")
  pub delimiter : words.delimiter.now ≡ value_told matches (codes "delimiter")
  pub null : words.null.now ≡ value_told matches (codes "null")
  pub header : words.has_header ≡ is_flag_told matches (codes "header")
  pub skips : words.skips_columns ≡ is_flag_told matches (codes "skip-columns")
  pub empty : words.allows_empty ≡ is_flag_told matches (codes "allow-empty")
