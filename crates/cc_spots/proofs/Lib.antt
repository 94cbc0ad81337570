pub mod CallerLaws
pub mod CodeLaws
pub mod CutLaws
pub mod SearchLaws
pub mod StandingLaws
