-- A text of spelled lexemes and spaces is read again.
use Rattle.std.proofs.Common.{◌≡◌, ℕ, List, [], Ok, Err, refl, ap}
use Rattle.query_tokens.specs.declared.fault.Fault.{Fault}
use Rattle.query_tokens.specs.Words.{Lexeme, Placed}
use Rattle.query_tokens.specs.Tokens.{tokens_in}
use Rattle.query_tokens.specs.Spelling.{IsLexeme, AreApart, Piece, spell, text_of, lexemes_in, lexemes_of}
use Rattle.query_tokens.specs.Lemmas.Respelled.{word_again}
use Rattle.query_tokens.specs.Lemmas.Pieces.{pieces_again}

pub tokens_again : (pieces : List Piece) (ts : List Placed) → AreApart pieces → tokens_in (text_of pieces) ≡ Ok ts → lexemes_of ts
    ≡ lexemes_in pieces
tokens_again pieces ts apart read =
    let again = pieces_again 0 pieces apart in
    let same = rw read at again in cc

pub no_fault : (pieces : List Piece) (fault : Fault) → AreApart pieces → tokens_in (text_of pieces) ≡ Err fault → ⊥
no_fault pieces fault apart read =
    let again = pieces_again 0 pieces apart in
    let same = rw read at again in absurd cc

pub one_spelling : (w v : Lexeme) → IsLexeme w → IsLexeme v → spell w ≡ spell v → w ≡ v
one_spelling w v legal other same =
    let this = word_again 0 w [] legal refl in
    let that = word_again 0 v [] other refl in
    let both = rw same at this in
    let pair : ◌≡◌ {A = Lexeme × List ℕ} (w, []) (v, []) = cc in
    ap (λ (x : Lexeme × List ℕ). x.0) pair

pub one_text : (these those : List Piece) → AreApart these → AreApart those → text_of these ≡ text_of those → lexemes_in these
    ≡ lexemes_in those
one_text these those apart others same =
    let this = pieces_again 0 these apart in
    let that = pieces_again 0 those others in
    let both = rw same at this in cc
