-- The definitions that the contracts of `stim_make` cite.
pub mod MadeLines
