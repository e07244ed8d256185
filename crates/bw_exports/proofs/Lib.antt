-- The files of lemmas.
mod RefusedRow
mod ScriptLemmas
