-- What other crates may cite of this one's proofs, each passed on from the module that proves it.
pub use Rattle.bw_text.proofs.Decimals.{decimal_is_number, decimal_value, decimal_is_read}
pub use Rattle.bw_text.proofs.Decimals.{read_is_decimal, digits_of_decimal, decimal_is_word}
pub use Rattle.bw_text.proofs.Numbers.{digit_range}
pub use Rattle.bw_text.proofs.Parts.{IsWord, words_next}
