-- Numbers of one to nine digits.
use Rattle.std.proofs.Common.{◌≡◌, ℕ, ◌<◌, ◌≤◌, ◌^◌, List, length, Some, None, cond, true, refl, sym, ap, ◌∙◌, arith}
use Rattle.std.proofs.lemmas.Bool.Decides.{nat_tests}
use Rattle.std.proofs.lemmas.Str.Parse.{IsDigitsTest, IsNumeralModel, digits_value_short, numerals_by_value, parse_gives}
use Rattle.std.specs.List.{list_all}
use Rattle.std.specs.Prelude.{Result}
use Rattle.std.specs.Result.{result_ok}
use Rattle.std.specs.Str.Parse.{ParsesUnsigned, digits_value}
use Rattle.film_project.specs.Texts.{is_digit}
use Rattle.dcp_commands.specs.Words.{is_number, number_in}

digits_tested : IsDigitsTest (λ ds. list_all is_digit ds ≡ true)
digits_tested = record {
  empty = refl;
  parts = λ c cs all. grind (arith, nat_tests, all);
  more = λ c cs digit all. grind (arith, nat_tests, digit, all);
}

numerals : IsNumeralModel (λ ds. list_all is_digit ds ≡ true) (digits_value 10)
numerals = numerals_by_value (λ ds. list_all is_digit ds ≡ true) digits_tested

-- what is parsed of such a word is the number that it writes
parsed :
    {E : Type 0} (word : List ℕ) (r : Result ℕ E) → ParsesUnsigned 32 10 word r → list_all is_digit word ≡ true → 0 < length word → length word ≤ 9 →
    result_ok r ≡ Some (digits_value 10 word)
parsed word r parses digits some few =
    let small : digits_value 10 word < 10 ^ 9 = digits_value_short numerals word 9 digits few in
    ap result_ok (parse_gives numerals 32 word r parses digits some (omega (arith, small)))

digits_of : (word : List ℕ) → is_number word ≡ true → (list_all is_digit word ≡ true) × (0 < length word) × (length word ≤ 9)
digits_of word is = grind (arith, nat_tests, is)

pub number_parsed : {E : Type 0} (word : List ℕ) (r : Result ℕ E) → ParsesUnsigned 32 10 word r → is_number word ≡ true → result_ok r ≡ number_in word
number_parsed word r parses is =
    let parts = digits_of word is in
    parsed word r parses parts.0 parts.1 parts.2 ∙ sym (ap (λ b. cond b (Some (digits_value 10 word)) None) is)
